use Rattle.liveness.proofs.GrowLemmas.{IsGrowing}
use Rattle.image_make.proofs.KeptLemmas.{raised_one}
use Rattle.image_make.proofs.kept.with_commons.Given as goal

abbrev pub invariant-loop-atom : goal.invariant-loop-atom
invariant-loop-atom l = IsGrowing (raised_one l.symbols.literals) l.fn.before.items l.kept.items l.commons l.atom-index
