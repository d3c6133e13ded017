use Rattle.std.proofs.Common.{◌≡◌, ℕ, ◌+◌, ◌-◌, ◌^◌, ◌<◌, ◌≤◌, List, All, refl, ap, subst, sym, ◌∙◌, arith, length, length-append}
use Rattle.sect_place.specs.Places.{spaced}
use Rattle.sect_place.specs.declared.layout.Placed.{Placed}
use Rattle.sect_place.specs.declared.layout.PlacedSection.{PlacedSection}
use Rattle.sect_place.specs.declared.part.Group.{Group}
use Rattle.sect_place.specs.declared.part.Part.{Part}
use Rattle.sect_place.proofs.Spread.{spreading_on, spreading_ends, group_bounds, all_split}
use Rattle.sect_place.proofs.walk.place_groups.Goals as goal

pub place_parts-requires-clause-reach : goal.place_parts-requires-clause-reach
place_parts-requires-clause-reach c =
    let few_segments : length c.loop-group.segments.items < 2 ^ 63 = omega (arith, c.loop-group.segments.ok.0, c.loop-group.segments.ok.1, c.loop-group.segments.small) in
    omega (arith, c.loop-group.invariant.reach, few_segments)

pub up-next-requires-clause-near : goal.up-next-requires-clause-near
up-next-requires-clause-near c =
    let few_segments : length c.loop-group.segments.items < 2 ^ 63 = omega (arith, c.loop-group.segments.ok.0, c.loop-group.segments.ok.1, c.loop-group.segments.small) in
    let few_sections : length c.place_parts.new.sections.items < 2 ^ 57 = subst (λ (ss : List PlacedSection). length ss < 2 ^ 57) c.as_slice.ensures.value c.sections_are_few.ensures in
    let few_placed : length c.place_parts.new.placed.items < 2 ^ 58 = subst (λ (ps : List Placed). length ps < 2 ^ 58) c.as_slice-in-loop-group.ensures.value c.placed_are_few.ensures in
    omega (arith, c.loop-group.invariant.reach, c.in_ok-ends.ensures.reach, few_segments, few_sections, few_placed)

pub up-file_end-requires-clause-near : goal.up-file_end-requires-clause-near
up-file_end-requires-clause-near c =
    let few_segments : length c.loop-group.segments.items < 2 ^ 63 = omega (arith, c.loop-group.segments.ok.0, c.loop-group.segments.ok.1, c.loop-group.segments.small) in
    let few_sections : length c.place_parts.new.sections.items < 2 ^ 57 = subst (λ (ss : List PlacedSection). length ss < 2 ^ 57) c.as_slice.ensures.value c.sections_are_few.ensures in
    let few_placed : length c.place_parts.new.placed.items < 2 ^ 58 = subst (λ (ps : List Placed). length ps < 2 ^ 58) c.as_slice-in-loop-group.ensures.value c.placed_are_few.ensures in
    let bounds = group_bounds (spaced c.args.room.now.kept.now c.args.room.now.areas.now c.args.room.now.unit) c.loop-group.at c.loop-group.lead c.in-Some.group.parts in
    let m = rw c.into_vec-parts.ensures at c.in_ok-ends.ensures.memory in
    let f = rw c.into_vec-parts.ensures at c.in_ok-ends.ensures.file in
    omega (arith, m, f, bounds.2, c.loop-group.invariant.reach, c.in_ok-ends.ensures.reach, few_segments, few_sections, few_placed)

pub overflow_sub-bytes : goal.overflow_sub-bytes
overflow_sub-bytes c =
    let bounds = group_bounds (spaced c.args.room.now.kept.now c.args.room.now.areas.now c.args.room.now.unit) c.loop-group.at c.loop-group.lead c.in-Some.group.parts in
    let f = rw c.into_vec-parts.ensures at c.in_ok-ends.ensures.file in
    rw (c.up-file_end.ensures.exact, f) (omega (arith, bounds.1, bounds.4))

pub segment_at-requires : goal.segment_at-requires
segment_at-requires c =
    let bounds = group_bounds (spaced c.args.room.now.kept.now c.args.room.now.areas.now c.args.room.now.unit) c.loop-group.at c.loop-group.lead c.in-Some.group.parts in
    let m = rw c.into_vec-parts.ensures at c.in_ok-ends.ensures.memory in
    rw (c.up-next.ensures.exact, m) (omega (arith, bounds.0, bounds.3))

pub loop-group-preserved : goal.loop-group-preserved
loop-group-preserved c =
    let h = c.in-Some.ensures.steps in
    let long = ap length h.0 in
    let m = rw c.into_vec-parts.ensures at c.in_ok-ends.ensures.memory in
    let f = rw c.into_vec-parts.ensures at c.in_ok-ends.ensures.file in
    let laid = rw c.into_vec-parts.ensures at c.in_ok-ends.ensures.sections in
    let stood = rw c.into_vec-parts.ensures at c.in_ok-ends.ensures.places in
    let few_segments : length c.loop-group.segments.items < 2 ^ 63 = omega (arith, c.loop-group.segments.ok.0, c.loop-group.segments.ok.1, c.loop-group.segments.small) in
    let few_sections : length c.place_parts.new.sections.items < 2 ^ 57 = subst (λ (ss : List PlacedSection). length ss < 2 ^ 57) c.as_slice.ensures.value c.sections_are_few.ensures in
    let few_placed : length c.place_parts.new.placed.items < 2 ^ 58 = subst (λ (ps : List Placed). length ps < 2 ^ 58) c.as_slice-in-loop-group.ensures.value c.placed_are_few.ensures in
    let longer : length c.push.new.self.items ≡ length c.loop-group.segments.items + 1 = ap length c.in_ok-push.ensures.items ∙ length-append c.loop-group.segments.items _ in
    let shown = rw c.len-count.ensures at c.segment_at.ensures in record {
      spreading = spreading_on _ _ _ _ (c.loop-group.at + c.loop-group.lead) c.in_ok-ends.ends.memory c.in_ok-ends.ends.file c.up-next.result (c.up-file_end.result - c.loop-group.at) _ _ c.in-Some.group c.segment_at.result _ c.push.new.self.items _ _ c.place_parts.new.sections.items _ _ c.place_parts.new.placed.items _ _ _ c.loop-group.invariant.spreading h.0 refl m f c.up-next.ensures.exact (ap (λ (n : ℕ). n - c.loop-group.at) c.up-file_end.ensures.exact) shown c.in_ok-push.ensures.items laid stood;
      low = (all_split (λ (group : Group). All (λ (part : Part). part.section.align ≤ 14) group.parts) _ _ c.in-Some.group c.loop-group.invariant.low h.0).1;
      reach = omega (arith, c.loop-group.invariant.reach, c.in_ok-ends.ensures.reach, c.up-next.ensures.small, longer);
      small = omega (arith, c.loop-group.invariant.reach, c.in_ok-ends.ensures.reach, c.up-next.ensures.small, few_segments, few_sections, few_placed);
      small_lead = omega arith;
      left = omega (arith, h.1, long, c.loop-group.invariant.left);
    }

pub returns-clause-segments : goal.returns-clause-segments
returns-clause-segments c =
    (spreading_ends _ _ _ _ _ _ _ _ _ _ _ _ _ c.loop-group.invariant.spreading (sym c.loop-group.invariant.left ∙ c.in-None.ensures.steps.0)).0

pub returns-clause-sections : goal.returns-clause-sections
returns-clause-sections c =
    (spreading_ends _ _ _ _ _ _ _ _ _ _ _ _ _ c.loop-group.invariant.spreading (sym c.loop-group.invariant.left ∙ c.in-None.ensures.steps.0)).1

pub returns-clause-places : goal.returns-clause-places
returns-clause-places c =
    (spreading_ends _ _ _ _ _ _ _ _ _ _ _ _ _ c.loop-group.invariant.spreading (sym c.loop-group.invariant.left ∙ c.in-None.ensures.steps.0)).2

pub returns-clause-end : goal.returns-clause-end
returns-clause-end c =
    (spreading_ends _ _ _ _ _ _ _ _ _ _ _ _ _ c.loop-group.invariant.spreading (sym c.loop-group.invariant.left ∙ c.in-None.ensures.steps.0)).3

pub returns-clause-file : goal.returns-clause-file
returns-clause-file c =
    (spreading_ends _ _ _ _ _ _ _ _ _ _ _ _ _ c.loop-group.invariant.spreading (sym c.loop-group.invariant.left ∙ c.in-None.ensures.steps.0)).4
