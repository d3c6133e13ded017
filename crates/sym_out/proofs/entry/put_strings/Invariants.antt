use Rattle.sym_out.specs.Entries.{string_of}
use Rattle.sym_out.proofs.Loops.{IsPutting}
use Rattle.sym_out.proofs.entry.put_strings.Given as goal

abbrev pub invariant-loop-entry : goal.invariant-loop-entry
invariant-loop-entry l = IsPutting string_of l.entries l.fn.strings.items l.entry-index l.strings.items
