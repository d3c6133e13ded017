use Rattle.std.proofs.Common.{rules}
use Rattle.image_make.proofs.CommonLemmas.{nothing_noted}
use Rattle.image_make.proofs.commons.found_for.Goals as goal

pub loop-winner-init : goal.loop-winner-init
loop-winner-init c = nothing_noted c.args.keys.now c.in_ok-found.found.items (c.in_ok-found.ensures.items_if_clones_equal (search rules))
