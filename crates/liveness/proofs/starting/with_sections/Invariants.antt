use Rattle.liveness.specs.Roots.{section_root}
use Rattle.symbol_winners.proofs.PickLemmas.{IsPicking}
use Rattle.liveness.proofs.starting.with_sections.Given as goal

abbrev pub invariant-loop-atom : goal.invariant-loop-atom
invariant-loop-atom l = IsPicking (section_root l.object) l.fn.before.items l.roots.items l.atoms l.atom-index
