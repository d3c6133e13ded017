use Rattle.std.proofs.Common.{not}
use Rattle.link_gen.proofs.FilterLemmas.{IsFiltering}
use Rattle.link_gen.specs.Calls.{has_function}
use Rattle.link_gen.proofs.calls.others.Given as goal

abbrev pub invariant-loop-i : goal.invariant-loop-i
invariant-loop-i l = IsFiltering (λ i. not (has_function l.fn.made i)) l.drawn l.i-index l.others.items
