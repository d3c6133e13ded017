use Rattle.std.proofs.Common.{◌≡◌, Some, subst}
use Rattle.slot_place.specs.Places.{slot_address, starts_of}
use Rattle.slot_place.specs.declared.places.SlotStarts.{SlotStarts}
use Rattle.slot_plan.specs.declared.need.Way.TheVariants.{Got}
use Rattle.ref_meet.proofs.ToldLemmas.{slot_low}
use Rattle.ref_meet.proofs.pointers.slot_pointee.Goals as goal

pub offset_in_image-requires-clause-slot : goal.offset_in_image-requires-clause-slot
offset_in_image-requires-clause-slot c =
    let P : SlotStarts → Type 0 = λ starts. Some c.in_ok-slot.slot ≡ slot_address starts c.args.scene.now.slots.now Got c.args.goal.now in
    slot_low 8 (starts_of c.args.scene.now.layout.now.sections).got c.args.scene.now.slots.now.got c.args.goal.now c.in_ok-slot.slot c.requires.sound.room.got
    (subst P c.requires.starts c.in_ok-slot.ensures)
