use Rattle.liveness.specs.Roots.{exported_root}
use Rattle.symbol_winners.proofs.PickLemmas.{IsPicking}
use Rattle.liveness.proofs.starting.with_exported.Given as goal

abbrev pub invariant-loop-winner : goal.invariant-loop-winner
invariant-loop-winner l = IsPicking (exported_root l.symbols) l.fn.before.items l.roots.items l.list l.winner-index
