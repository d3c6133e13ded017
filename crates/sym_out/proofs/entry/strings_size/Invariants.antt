use Rattle.sym_out.specs.Sizes.{string_size}
use Rattle.sym_out.proofs.Sizing.{IsSumming}
use Rattle.sym_out.proofs.entry.strings_size.Given as goal

abbrev pub invariant-loop-entry : goal.invariant-loop-entry
invariant-loop-entry l = IsSumming string_size l.entries l.entry-index l.total
