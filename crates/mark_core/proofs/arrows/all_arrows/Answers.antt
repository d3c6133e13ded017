use Rattle.std.proofs.Common.{arith}
use Rattle.std.proofs.lemmas.Grind.{common_steps}
use Rattle.mark_core.specs.inner.Arrows.{arrows}
use Rattle.mark_core.proofs.arrows.all_arrows.Goals as goal

pub returns : goal.returns
unfolding arrows
returns c = grind (arith, common_steps)
