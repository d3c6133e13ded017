use Rattle.sym_out.specs.Symbols.{hidden_local}
use Rattle.sym_out.proofs.Loops.{IsChoosing}
use Rattle.sym_out.proofs.locals.push_hidden.Given as goal

abbrev pub invariant-loop-i : goal.invariant-loop-i
invariant-loop-i l = IsChoosing (hidden_local l.sites l.symbols l.files) l.winners l.fn.locals.items l.i l.locals.items
