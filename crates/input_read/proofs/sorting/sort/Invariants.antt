use Rattle.input_read.proofs.SortLemmas.{IsSorting}
use Rattle.input_read.proofs.sorting.sort.Given as goal

abbrev pub invariant-loop-opening : goal.invariant-loop-opening
invariant-loop-opening l = IsSorting l.sources l.objects l.stubs l.fn.openings l.yielded l.opening-iterator.rest.items
