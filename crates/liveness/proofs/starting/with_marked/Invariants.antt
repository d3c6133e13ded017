use Rattle.std.specs.List.{enumerate_from}
use Rattle.liveness.specs.Roots.{marked_root}
use Rattle.symbol_winners.proofs.PickLemmas.{IsPicking}
use Rattle.liveness.proofs.starting.with_marked.Given as goal

abbrev pub invariant-loop-index : goal.invariant-loop-index
invariant-loop-index l = IsPicking (marked_root l.symbols l.file) l.fn.before.items l.roots.items (enumerate_from 0 l.file.object.symbols) l.index
