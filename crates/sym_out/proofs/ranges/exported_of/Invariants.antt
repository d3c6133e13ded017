use Rattle.std.proofs.Common.{[]}
use Rattle.sym_out.specs.Symbols.{exported_entry}
use Rattle.sym_out.proofs.Loops.{IsChoosing}
use Rattle.sym_out.proofs.ranges.exported_of.Given as goal

abbrev pub invariant-loop-i : goal.invariant-loop-i
invariant-loop-i l = IsChoosing (exported_entry l.sites l.symbols) l.winners [] l.i l.entries.items
