use Rattle.image_make.proofs.CommonLemmas.{keys_end}
use Rattle.image_make.proofs.commons.common_keys.Goals as goal

pub returns : goal.returns
returns c = keys_end c.args.keys.now c.loop-key.commons.items c.loop-key.key-index c.loop-key.invariant c.loop-key-test.false
