use Rattle.std.proofs.Common.{refl, sym, subst}
use Rattle.sect_place.specs.Layout.{image_sections, plan_of}
use Rattle.sect_place.specs.Places.{spaced}
use Rattle.tlv_plan.specs.Template.{atoms_of}
use Rattle.slot_place.specs.Places.{HasOwnSection}
use Rattle.slot_place.proofs.SectionLemmas.{has_own}
use Rattle.slot_place.proofs.laws.slots_have_sections.Goals as goal

pub returns : goal.returns
unfolding image_sections plan_of spaced atoms_of
returns c kept sections slots islands sizes command layout have is way =
    subst (λ there. HasOwnSection there slots way) (sym is.sections)
    (has_own _ _ _ _ sections slots sizes way (record { none = refl; have_atoms = have }))
