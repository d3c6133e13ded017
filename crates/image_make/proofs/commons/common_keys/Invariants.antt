use Rattle.std.proofs.Common.{[]}
use Rattle.liveness.proofs.GrowLemmas.{IsGrowing}
use Rattle.image_make.proofs.CommonLemmas.{key_if}
use Rattle.image_make.proofs.commons.common_keys.Given as goal

abbrev pub invariant-loop-key : goal.invariant-loop-key
invariant-loop-key l = IsGrowing key_if [] l.commons.items l.keys l.key-index
