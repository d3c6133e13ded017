use Rattle.std.proofs.Common.{◌∙◌}
use Rattle.patch.proofs.LeastLemmas.{element_at}
use Rattle.image_join.proofs.WritingLemmas.{part_has_room}
use Rattle.image_join.proofs.joining.write_parts.Goals as goal

pub write_part-requires : goal.write_part-requires
write_part-requires c =
    part_has_room c.args.parts.now c.args.image.now c.loop-part.part-index c.loop-part.image c.part-item.result c.loop-part.invariant c.loop-part-test.true
    (c.part-item.is ∙ element_at c.args.parts.now c.loop-part.part-index _ _ c.loop-part-test.true)
