use Rattle.std.proofs.Common.{List, []}
use Rattle.sym_out.specs.Files.{FileSymbol}
use Rattle.sym_out.specs.Map.{first_name, row_of}
use Rattle.sym_out.specs.inner.Tables.{AreNames}
use Rattle.sym_out.proofs.Loops.{IsChoosing}
use Rattle.sym_out.proofs.map.rows_of.Given as goal

abbrev pub invariant-loop-atom : goal.invariant-loop-atom
invariant-loop-atom l = (symbols : List FileSymbol) → AreNames (first_name symbols) l.placed l.names.items → IsChoosing (row_of l.placed symbols) l.atoms [] l.atom-index l.rows.items
