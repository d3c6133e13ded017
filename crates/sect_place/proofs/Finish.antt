-- The code's values are those of the plan, and what was placed is the layout.
use Rattle.std.proofs.Common.{◌≡◌, ℕ, ◌+◌, ◌-◌, ◌*◌, ◌^◌, ◌<◌, ◌≤◌, inl, inr, List, [], ◌∷◌, ◌++◌, map, Result, Ok, Err, IfOk, MatchResult, IsPermutation, refl, sym, ap, ap₂, subst, ◌∙◌, arith}
use Rattle.std.proofs.lemmas.Bool.{cases_Bool}
use Rattle.command_line.specs.declared.command.Command.{Command}
use Rattle.mo_types.specs.declared.atom.Atom.{Atom}
use Rattle.mo_types.specs.declared.out_section.OutSection.{OutSection}
use Rattle.slot_plan.specs.declared.list.Slots.{Slots}
use Rattle.sect_place.specs.Arrangement.{MadeBytes, groups_of, parts_count}
use Rattle.sect_place.specs.Layout.{Plan, made_bytes, base_of, lead_of, plan_of, end_of_image, linkedit, first_segments, image_segments, image_sections, image_places, IsTooLarge}
use Rattle.sect_place.specs.Places.{spaced, area_unit, groups_segments, groups_sections, groups_places, groups_end, groups_file}
use Rattle.sect_place.specs.inner.Room.{capped, capped_place, capped_section, capped_segment}
use Rattle.sect_place.specs.declared.island.IslandArea.{IslandArea}
use Rattle.sect_place.specs.declared.island.IslandPlan.{IslandPlan}
use Rattle.sect_place.specs.declared.layout.Layout.{Layout}
use Rattle.sect_place.specs.declared.layout.Placed.{Placed}
use Rattle.sect_place.specs.declared.layout.PlacedSection.{PlacedSection}
use Rattle.sect_place.specs.declared.layout.Segment.{Segment}
use Rattle.sect_place.specs.declared.part.Group.{Group}
use Rattle.sect_place.specs.declared.size.PlaceFault.{PlaceFault}
use Rattle.sect_place.specs.declared.size.PlaceSizes.{PlaceSizes}
use Rattle.sect_place.proofs.Narrow.{capped_same, groups_places_narrow, groups_sections_narrow, groups_segments_narrow, file_within, lead_within, few_sections}

pub plan_is : (kept kept' : List Atom) (sections sections' : List OutSection) (slots : Slots) (islands : IslandPlan) (sizes : PlaceSizes) (command : Command) (areas' : List IslandArea) (unit' : ℕ) (groups' groups'' : List Group) (base' lead' : ℕ) (bytes' : MadeBytes) → kept' ≡ kept → sections' ≡ sections → areas' ≡ islands.areas → unit' ≡ area_unit sections' → bytes' ≡ made_bytes slots sizes → groups' ≡ groups_of sections' bytes' → base' ≡ base_of command → groups'' ≡ groups' → lead' ≡ lead_of groups'' sizes command → (let p : Plan = record { atoms = spaced kept' areas' unit'; groups = groups'; base = base'; lead = lead' } in p) ≡ plan_of kept sections slots islands sizes command
unfolding plan_of
plan_is kept kept' sections sections' slots islands sizes command areas' unit' groups' groups'' base' lead' bytes' k s a u m g b g' l = rw (l, g', b, g, m, u, a, s, k) refl

pub base_low : (command : Command) (base : ℕ) → base ≡ base_of command → base ≤ 2 ^ 32
base_low command base is =
    rw is (elim (cases_Bool command.dylib) [
      | inl library ↦ rw library (omega arith)
      | inr program ↦ rw program (omega arith)
    ])

-- what holds of the numbers of a plan
pub record IsBased (plan : Plan) : Type 0 where
  pub base : plan.base ≤ 2 ^ 32
  pub sections : 80 * parts_count plan.groups ≤ plan.lead
  pub within : plan.base + plan.lead ≤ end_of_image plan

pub based : (sections' : List OutSection) (sizes : PlaceSizes) (command : Command) (plan : Plan) (bytes' : MadeBytes) (groups'' : List Group) → plan.base ≡ base_of command → plan.groups ≡ groups_of sections' bytes' → groups'' ≡ plan.groups → plan.lead ≡ lead_of groups'' sizes command → IsBased plan
based sections' sizes command plan bytes' groups'' b g g' l = record {
  base = base_low command plan.base b;
  sections = let few = few_sections plan.groups sizes command in let same : plan.lead ≡ lead_of plan.groups sizes command = l ∙ ap (λ (gs : List Group). lead_of gs sizes command) g' in omega arith;
  within = subst (λ (gs : List Group). plan.base + plan.lead ≤ groups_end plan.atoms plan.base plan.lead gs) (sym g) (lead_within plan.atoms plan.base plan.lead sections' bytes');
}

pub segments_finished : (command : Command) (plan : Plan) (r : Result Layout PlaceFault) (laid first : List Segment) (end file : ℕ) → IsBased plan → laid ≡ first ++ map capped_segment (groups_segments plan.atoms plan.base 0 plan.lead plan.groups) → first ≡ first_segments command → end ≡ end_of_image plan → file ≡ groups_file plan.atoms plan.base 0 plan.lead plan.groups → IfOk r (λ (layout : Layout). layout.segments ≡ laid ++ linkedit (capped end) (capped file) ∷ []) → MatchResult r (λ (layout : Layout). end - plan.base < 2 ^ 32) (IsTooLarge (end - plan.base)) → IfOk r (λ (layout : Layout). layout.segments ≡ image_segments command plan)
unfolding image_segments
segments_finished command plan (Ok layout) laid first end file is laid_is first_is ended filed shown size =
    let low : end_of_image plan < 2 ^ 64 = omega (arith, size, ended, is.base, is.within) in
    let few : parts_count plan.groups < 2 ^ 32 = omega (arith, size, ended, is.sections, is.within) in
    let narrow = groups_segments_narrow plan.atoms plan.base 0 plan.lead plan.groups (omega arith) low few in
    let within = file_within plan.atoms plan.base 0 plan.lead plan.groups (omega arith) in
    let end_same : capped end ≡ end_of_image plan = ap capped ended ∙ capped_same (end_of_image plan) low in
    let file_same : capped file ≡ groups_file plan.atoms plan.base 0 plan.lead plan.groups = ap capped filed ∙ capped_same (groups_file plan.atoms plan.base 0 plan.lead plan.groups) (omega (arith, within, low)) in
    let body : laid ≡ first_segments command ++ groups_segments plan.atoms plan.base 0 plan.lead plan.groups = laid_is ∙ ap₂ (λ (f ss : List Segment). f ++ ss) first_is narrow in
    let last : linkedit (capped end) (capped file) ≡ linkedit (end_of_image plan) (groups_file plan.atoms plan.base 0 plan.lead plan.groups) = ap₂ linkedit end_same file_same in
    shown ∙ ap₂ (λ (ss : List Segment) (l : Segment). ss ++ l ∷ []) body last
segments_finished command plan (Err e) laid first end file is laid_is first_is ended filed shown size = tt

pub sections_finished : (plan : Plan) (r : Result Layout PlaceFault) (laid : List PlacedSection) (end : ℕ) → IsBased plan → laid ≡ map capped_section (groups_sections plan.atoms plan.base 0 plan.lead plan.groups) → end ≡ end_of_image plan → IfOk r (λ (layout : Layout). layout.sections ≡ laid) → MatchResult r (λ (layout : Layout). end - plan.base < 2 ^ 32) (IsTooLarge (end - plan.base)) → IfOk r (λ (layout : Layout). layout.sections ≡ image_sections plan)
unfolding image_sections
sections_finished plan (Ok layout) laid end is laid_is ended shown size =
    let low : end_of_image plan < 2 ^ 64 = omega (arith, size, ended, is.base, is.within) in
    shown ∙ (laid_is ∙ groups_sections_narrow plan.atoms plan.base 0 plan.lead plan.groups (omega arith) low)
sections_finished plan (Err e) laid end is laid_is ended shown size = tt

pub places_finished : (plan : Plan) (r : Result Layout PlaceFault) (laid : List Placed) (end : ℕ) → IsBased plan → laid ≡ map capped_place (groups_places plan.atoms plan.base plan.lead plan.groups) → end ≡ end_of_image plan → IfOk r (λ (layout : Layout). IsPermutation laid layout.placed) → MatchResult r (λ (layout : Layout). end - plan.base < 2 ^ 32) (IsTooLarge (end - plan.base)) → IfOk r (λ (layout : Layout). IsPermutation (image_places plan) layout.placed)
unfolding image_places
places_finished plan (Ok layout) laid end is laid_is ended shown size =
    let low : end_of_image plan < 2 ^ 64 = omega (arith, size, ended, is.base, is.within) in
    subst (λ (ps : List Placed). IsPermutation ps layout.placed) (laid_is ∙ groups_places_narrow plan.atoms plan.base plan.lead plan.groups low) shown
places_finished plan (Err e) laid end is laid_is ended shown size = tt
