use Rattle.std.proofs.Common.{map, take}
use Rattle.sym_out.specs.Symbols.{local_entry}
use Rattle.sym_out.specs.inner.Written.{Puts}
use Rattle.sym_out.proofs.locals.put_locals.Given as goal

abbrev pub invariant-loop-local : goal.invariant-loop-local
invariant-loop-local l = Puts (map local_entry (take l.local-index l.locals)) l.fn.symbols.items l.fn.strings.items l.symbols.items l.strings.items
