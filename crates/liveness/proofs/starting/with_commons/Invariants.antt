use Rattle.liveness.specs.Roots.{common_root}
use Rattle.symbol_winners.proofs.PickLemmas.{IsPicking}
use Rattle.liveness.proofs.starting.with_commons.Given as goal

abbrev pub invariant-loop-atom : goal.invariant-loop-atom
invariant-loop-atom l = IsPicking (common_root) l.fn.before.items l.roots.items l.atoms l.atom-index
