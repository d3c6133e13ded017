-- The section `__unwind_info` of an image: what it is, and that the image has it.
use Rattle.std.proofs.Common.{◌≡◌, ◌≢◌, ◌+◌, ◌≤◌, false, List, [], length, Option, Some, None, refl, ap, subst}
use Rattle.std.specs.Prelude.{MatchOption}
use Rattle.list_lemmas.proofs.Members.{In, find_some}
use Rattle.mo_types.specs.Whole.{is_zerofill}
use Rattle.mo_types.specs.declared.out_section.OutSection.{OutSection}
use Rattle.sect_place.specs.Arrangement.{section_of}
use Rattle.sect_place.specs.Layout.{Plan, end_of_image, image_sections}
use Rattle.sect_place.specs.declared.layout.Layout.{Layout}
use Rattle.sect_place.specs.declared.layout.PlacedSection.{PlacedSection}
use Rattle.sect_place.specs.declared.part.Made.TheVariants.{UnwindInfo}
use Rattle.slot_place.proofs.SectionLemmas.{placed_groups}
use Rattle.image_make.specs.Made.{IsLaid, ImageInputs, plan_for}
use Rattle.image_make.specs.Parts.{info_section}
use Rattle.image_make.proofs.InfoLemmas as lemmas

pub info_in : (layout : Layout) (placed : PlacedSection) → info_section layout.sections ≡ Some placed → In placed layout.sections
unfolding info_section
info_in layout placed e = (find_some _ layout.sections placed e).0

-- a section of a plan stands in the image
within : (plan : Plan) (placed : PlacedSection) → In placed (image_sections plan) → (plan.base ≤ placed.address) × (placed.address + placed.size ≤ end_of_image plan)
unfolding image_sections
within plan placed among =
    let of_part = placed_groups plan.atoms plan.base 0 plan.lead plan.groups placed among in
    (of_part.begins, of_part.ends)

-- what is known of it
pub record IsInfoSection (m : ImageInputs) (placed : PlacedSection) : Type 0 where
  pub is : placed.section ≡ section_of UnwindInfo
  pub begins : (plan_for m).base ≤ placed.address
  pub ends : placed.address + placed.size ≤ end_of_image (plan_for m)
  pub sized : placed.size ≡ length m.info
  pub some : m.info ≢ []

pub info_is : (m : ImageInputs) (layout : Layout) (placed : PlacedSection) → IsLaid m layout → info_section layout.sections ≡ Some placed → IsInfoSection m placed
info_is m layout placed laid e =
    let own = lemmas.info_found m layout placed laid e in
    let stands = within (plan_for m) placed (subst (λ (ss : List PlacedSection). In placed ss) laid.layout_of.sections (info_in layout placed e)) in
    record { is = own.own.0; begins = stands.0; ends = stands.1; sized = own.sized; some = own.some }

-- it has bytes in the file, and no atoms
pub info_solid : (m : ImageInputs) (layout : Layout) (placed : PlacedSection) → IsLaid m layout → info_section layout.sections ≡ Some placed → is_zerofill placed.section.kind ≡ false
info_solid m layout placed laid e = ap (λ (s : OutSection). is_zerofill s.kind) (info_is m layout placed laid e).is

pub info_bare : (m : ImageInputs) (layout : Layout) (placed : PlacedSection) → IsLaid m layout → info_section layout.sections ≡ Some placed → placed.section.atoms ≡ []
info_bare m layout placed laid e = ap (λ (s : OutSection). s.atoms) (info_is m layout placed laid e).is

-- the image has it where it has bytes
pub info_there : (m : ImageInputs) (layout : Layout) → IsLaid m layout → m.info ≢ [] → (placed : PlacedSection) × (info_section layout.sections ≡ Some placed)
info_there m layout laid some = by (info_section layout.sections) refl (lemmas.info_is m layout laid)
  where
    by : (o : Option PlacedSection) → info_section layout.sections ≡ o → MatchOption o (m.info ≡ []) (λ (placed : PlacedSection). (m.info ≢ []) × (placed.size ≡ length m.info)) → (placed : PlacedSection) × (info_section layout.sections ≡ Some placed)
    by None e none = absurd (some none)
    by (Some placed) e has = (placed, e)
