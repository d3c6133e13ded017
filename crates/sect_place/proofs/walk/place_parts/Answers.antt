use Rattle.std.proofs.Common.{◌≡◌, ℕ, ◌+◌, ◌^◌, ◌<◌, ◌≤◌, List, ap, ap₂, subst, sym, ◌∙◌, arith, length, length-append}
use Rattle.sect_place.specs.declared.layout.Placed.{Placed}
use Rattle.sect_place.specs.declared.layout.PlacedSection.{PlacedSection}
use Rattle.sect_place.specs.declared.part.Part.{Part}
use Rattle.sect_place.proofs.Spread.{laying_on, laying_room, laying_ends, all_split}
use Rattle.sect_place.proofs.walk.place_parts.Goals as goal

pub up-address-requires-clause-near : goal.up-address-requires-clause-near
up-address-requires-clause-near c =
    let few_sections : length c.loop-part.sections.items < 2 ^ 57 = subst (λ (ss : List PlacedSection). length ss < 2 ^ 57) c.as_slice.ensures.value c.sections_are_few.ensures in
    let few_placed : length c.loop-part.placed.items < 2 ^ 58 = subst (λ (ps : List Placed). length ps < 2 ^ 58) c.as_slice-in-loop-part.ensures.value c.placed_are_few.ensures in
    omega (arith, c.loop-part.invariant.reach, c.requires.reach, few_sections, few_placed)

pub place_atoms-requires-clause-reach : goal.place_atoms-requires-clause-reach
place_atoms-requires-clause-reach c =
    let few_sections : length c.loop-part.sections.items < 2 ^ 57 = subst (λ (ss : List PlacedSection). length ss < 2 ^ 57) c.as_slice.ensures.value c.sections_are_few.ensures in
    omega (arith, c.loop-part.invariant.reach, c.requires.reach, c.up-address.ensures.small, few_sections)

pub place_atoms-requires-clause-small : goal.place_atoms-requires-clause-small
place_atoms-requires-clause-small c =
    let few_sections : length c.loop-part.sections.items < 2 ^ 57 = subst (λ (ss : List PlacedSection). length ss < 2 ^ 57) c.as_slice.ensures.value c.sections_are_few.ensures in
    let few_placed : length c.loop-part.placed.items < 2 ^ 58 = subst (λ (ps : List Placed). length ps < 2 ^ 58) c.as_slice-in-loop-part.ensures.value c.placed_are_few.ensures in
    omega (arith, c.loop-part.invariant.reach, c.requires.reach, c.up-address.ensures.small, few_sections, few_placed)

pub section_at-requires-clause-begins : goal.section_at-requires-clause-begins
section_at-requires-clause-begins c =
    let room = laying_room _ _ _ _ _ _ _ c.in-Some.part _ _ _ _ _ _ c.loop-part.invariant.laying c.in-Some.ensures.steps.0 in
    omega (arith, room.0, room.1, c.up-address.ensures.exact)

pub section_at-requires-clause-ends : goal.section_at-requires-clause-ends
section_at-requires-clause-ends c =
    let room = laying_room _ _ _ _ _ _ _ c.in-Some.part _ _ _ _ _ _ c.loop-part.invariant.laying c.in-Some.ensures.steps.0 in
    let e = rw (c.as_slice-in-loop-part-2.ensures, c.up-address.ensures.exact) at c.in_ok-atoms_end.ensures.end in
    omega (arith, room.2, e, c.widened.ensures.exact, c.up-address.ensures.exact)

pub loop-part-preserved : goal.loop-part-preserved
loop-part-preserved c =
    let h = c.in-Some.ensures.steps in
    let long = ap length h.0 in
    let longer : length c.push.new.self.items ≡ length c.loop-part.sections.items + 1 = ap length c.in_ok-push.ensures.items ∙ length-append c.loop-part.sections.items _ in
    let e = rw c.as_slice-in-loop-part-2.ensures at c.in_ok-atoms_end.ensures.end in
    let stood = rw c.as_slice-in-loop-part-2.ensures at c.in_ok-atoms_end.ensures.places in record {
      laying = laying_on _ _ _ _ _ c.up-address.result (c.in_ok-atoms_end.atoms_end + c.widened.result) c.filled_to-filled.result _ _ c.in-Some.part c.section_at.result _ c.push.new.self.items _ _ c.place_atoms.new.placed.items _ _ _ c.loop-part.invariant.laying h.0 c.up-address.ensures.exact (ap₂ (λ (n m : ℕ). n + m) e c.widened.ensures.exact) c.filled_to-filled.ensures c.section_at.ensures c.in_ok-push.ensures.items stood;
      low = (all_split (λ (part : Part). part.section.align ≤ 14) _ _ c.in-Some.part c.loop-part.invariant.low h.0).1;
      reach = omega (arith, c.loop-part.invariant.reach, c.in_ok-atoms_end.ensures.reach, c.up-address.ensures.small, c.widened.ensures.small, longer);
      left = omega (arith, h.1, long, c.loop-part.invariant.left);
    }

pub returns-clause-sections : goal.returns-clause-sections
returns-clause-sections c =
    (laying_ends _ _ _ _ _ _ _ _ _ _ _ _ c.loop-part.invariant.laying (sym c.loop-part.invariant.left ∙ c.in-None.ensures.steps.0)).0

pub returns-clause-places : goal.returns-clause-places
returns-clause-places c =
    (laying_ends _ _ _ _ _ _ _ _ _ _ _ _ c.loop-part.invariant.laying (sym c.loop-part.invariant.left ∙ c.in-None.ensures.steps.0)).1

pub returns-clause-memory : goal.returns-clause-memory
returns-clause-memory c =
    (laying_ends _ _ _ _ _ _ _ _ _ _ _ _ c.loop-part.invariant.laying (sym c.loop-part.invariant.left ∙ c.in-None.ensures.steps.0)).2

pub returns-clause-file : goal.returns-clause-file
returns-clause-file c =
    (laying_ends _ _ _ _ _ _ _ _ _ _ _ _ c.loop-part.invariant.laying (sym c.loop-part.invariant.left ∙ c.in-None.ensures.steps.0)).3
