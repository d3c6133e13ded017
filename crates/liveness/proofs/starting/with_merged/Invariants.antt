use Rattle.liveness.specs.Roots.{merged_root}
use Rattle.symbol_winners.proofs.PickLemmas.{IsPicking}
use Rattle.liveness.proofs.starting.with_merged.Given as goal

abbrev pub invariant-loop-winner : goal.invariant-loop-winner
invariant-loop-winner l = IsPicking (merged_root l.symbols.literals) l.fn.before.items l.roots.items l.list l.winner-index
