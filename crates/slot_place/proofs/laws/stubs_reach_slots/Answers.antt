use Rattle.std.proofs.Common.{refl, sym, subst, arith}
use Rattle.sect_place.specs.Layout.{base_of, image_sections, plan_of}
use Rattle.sect_place.specs.Places.{spaced}
use Rattle.sect_place.proofs.Meaning.{sections_aligned}
use Rattle.tlv_plan.specs.Template.{atoms_of}
use Rattle.slot_place.proofs.ReachLemmas.{AreWithin, are_reached, have_room, within}
use Rattle.slot_place.proofs.laws.stubs_reach_slots.Goals as goal

pub returns : goal.returns
unfolding image_sections plan_of spaced atoms_of
returns c kept sections slots islands sizes command layout have is small =
    let plan = plan_of kept sections slots islands sizes command in
    let all : AreWithin (base_of command) slots layout.sections =
    subst (λ there. AreWithin (base_of command) slots there) (sym is.sections)
    (within plan.atoms (base_of command) 0 plan.lead sections slots sizes (record { none = refl; have_atoms = have }) (omega (arith, small)) (sections_aligned plan)) in
    (have_room command slots layout.sections all, are_reached command slots layout.sections all)
