use Rattle.sym_out.proofs.Writing.{IsPlacing}
use Rattle.sym_out.proofs.entry.put_symbols.Given as goal

abbrev pub invariant-loop-entry : goal.invariant-loop-entry
invariant-loop-entry l = IsPlacing l.entries l.start l.fn.symbols.items l.entry-index l.at l.symbols.items
