use Rattle.std.proofs.Common.{◌≡◌, ℕ, ◌-◌, ◌^◌, ◌<◌, ◌≤◌, List, length, get_or, IfOk, MatchResult, IsPermutation, ap, sym, subst, arith}
use Rattle.mo_types.specs.declared.out_section.OutSection.{OutSection}
use Rattle.sect_place.specs.Arrangement.{MadeBytes}
use Rattle.sect_place.specs.Layout.{Plan, image_size, image_segments, image_sections, image_places, IsTooLarge}
use Rattle.sect_place.specs.Places.{spaced}
use Rattle.sect_place.specs.declared.arrange.MadeSizes.{MadeSizes}
use Rattle.sect_place.specs.declared.layout.Layout.{Layout}
use Rattle.sect_place.proofs.Finish.{plan_is, base_low, IsBased, based, segments_finished, sections_finished, places_finished}
use Rattle.sect_place.proofs.Narrow.{arranged_low}
use Rattle.sect_place.proofs.Sound.{whole_finished}
use Rattle.sect_place.proofs.Spread.{groups_after}
use Rattle.sect_place.proofs.placing.place.Goals as goal

pub place_groups-requires-clause-low : goal.place_groups-requires-clause-low
place_groups-requires-clause-low c =
    arranged_low c.as_slice-sections.result.now _ c.in_ok-groups.groups.items c.in_ok-groups.ensures (subst (λ (ss : List OutSection). (k : ℕ) (d : OutSection) → k < length ss → (get_or ss k d).align ≤ 14) (sym c.as_slice-sections.ensures) c.requires.sections)

pub place_groups-requires-clause-near : goal.place_groups-requires-clause-near
place_groups-requires-clause-near c =
    omega (arith, base_low c.args.command.now c.base_of-base.result c.base_of-base.ensures, c.lead_of-lead.ensures.small)

pub finished-requires-clause-begins : goal.finished-requires-clause-begins
finished-requires-clause-begins c =
    rw c.in_ok-laid.ensures.end (groups_after (spaced c.as_slice-2.result.now c.as_slice-3.result.now c.area_unit.result) c.base_of-base.result c.lead_of-lead.result c.in_ok-groups.groups.items)

pub returns-clause-segments : goal.returns-clause-segments
returns-clause-segments c =
    let planned = plan_is c.args.kept.now c.as_slice-2.result.now c.args.sections.now c.as_slice-sections.result.now c.args.slots.now c.args.islands.now c.args.sizes.now c.args.command.now c.as_slice-3.result.now c.area_unit.result c.in_ok-groups.groups.items c.as_slice.result.now c.base_of-base.result c.lead_of-lead.result _ c.as_slice-2.ensures c.as_slice-sections.ensures c.as_slice-3.ensures.all c.area_unit.ensures.exact (ap (λ (m : MadeSizes). let b : MadeBytes = record { stubs = m.stubs; unwind = m.unwind; got = m.got; tlv = m.tlv } in b) c.made_sizes.ensures) c.in_ok-groups.ensures c.base_of-base.ensures c.as_slice.ensures.value c.lead_of-lead.ensures.exact in
    let plan : Plan = record { atoms = spaced c.as_slice-2.result.now c.as_slice-3.result.now c.area_unit.result; groups = c.in_ok-groups.groups.items; base = c.base_of-base.result; lead = c.lead_of-lead.result } in
    let is : IsBased plan = based c.as_slice-sections.result.now c.args.sizes.now c.args.command.now plan _ c.as_slice.result.now c.base_of-base.ensures c.in_ok-groups.ensures c.as_slice.ensures.value c.lead_of-lead.ensures.exact in
    subst (λ (plan : Plan). IfOk c.finished.result (λ (layout : Layout). layout.segments ≡ image_segments c.args.command.now plan)) planned
    (segments_finished c.args.command.now plan c.finished.result c.in_ok-laid.laid.segments.items c.in_ok-before.before.items c.in_ok-laid.laid.end c.in_ok-laid.laid.file is c.in_ok-laid.ensures.segments c.in_ok-before.ensures c.in_ok-laid.ensures.end c.in_ok-laid.ensures.file c.finished.ensures.segments c.finished.ensures.size)

pub returns-clause-sections : goal.returns-clause-sections
returns-clause-sections c =
    let planned = plan_is c.args.kept.now c.as_slice-2.result.now c.args.sections.now c.as_slice-sections.result.now c.args.slots.now c.args.islands.now c.args.sizes.now c.args.command.now c.as_slice-3.result.now c.area_unit.result c.in_ok-groups.groups.items c.as_slice.result.now c.base_of-base.result c.lead_of-lead.result _ c.as_slice-2.ensures c.as_slice-sections.ensures c.as_slice-3.ensures.all c.area_unit.ensures.exact (ap (λ (m : MadeSizes). let b : MadeBytes = record { stubs = m.stubs; unwind = m.unwind; got = m.got; tlv = m.tlv } in b) c.made_sizes.ensures) c.in_ok-groups.ensures c.base_of-base.ensures c.as_slice.ensures.value c.lead_of-lead.ensures.exact in
    let plan : Plan = record { atoms = spaced c.as_slice-2.result.now c.as_slice-3.result.now c.area_unit.result; groups = c.in_ok-groups.groups.items; base = c.base_of-base.result; lead = c.lead_of-lead.result } in
    let is : IsBased plan = based c.as_slice-sections.result.now c.args.sizes.now c.args.command.now plan _ c.as_slice.result.now c.base_of-base.ensures c.in_ok-groups.ensures c.as_slice.ensures.value c.lead_of-lead.ensures.exact in
    subst (λ (plan : Plan). IfOk c.finished.result (λ (layout : Layout). layout.sections ≡ image_sections plan)) planned
    (sections_finished plan c.finished.result c.in_ok-laid.laid.sections.items c.in_ok-laid.laid.end is c.in_ok-laid.ensures.sections c.in_ok-laid.ensures.end c.finished.ensures.sections c.finished.ensures.size)

pub returns-clause-places : goal.returns-clause-places
returns-clause-places c =
    let planned = plan_is c.args.kept.now c.as_slice-2.result.now c.args.sections.now c.as_slice-sections.result.now c.args.slots.now c.args.islands.now c.args.sizes.now c.args.command.now c.as_slice-3.result.now c.area_unit.result c.in_ok-groups.groups.items c.as_slice.result.now c.base_of-base.result c.lead_of-lead.result _ c.as_slice-2.ensures c.as_slice-sections.ensures c.as_slice-3.ensures.all c.area_unit.ensures.exact (ap (λ (m : MadeSizes). let b : MadeBytes = record { stubs = m.stubs; unwind = m.unwind; got = m.got; tlv = m.tlv } in b) c.made_sizes.ensures) c.in_ok-groups.ensures c.base_of-base.ensures c.as_slice.ensures.value c.lead_of-lead.ensures.exact in
    let plan : Plan = record { atoms = spaced c.as_slice-2.result.now c.as_slice-3.result.now c.area_unit.result; groups = c.in_ok-groups.groups.items; base = c.base_of-base.result; lead = c.lead_of-lead.result } in
    let is : IsBased plan = based c.as_slice-sections.result.now c.args.sizes.now c.args.command.now plan _ c.as_slice.result.now c.base_of-base.ensures c.in_ok-groups.ensures c.as_slice.ensures.value c.lead_of-lead.ensures.exact in
    subst (λ (plan : Plan). IfOk c.finished.result (λ (layout : Layout). IsPermutation (image_places plan) layout.placed)) planned
    (places_finished plan c.finished.result c.in_ok-laid.laid.placed.items c.in_ok-laid.laid.end is c.in_ok-laid.ensures.places c.in_ok-laid.ensures.end c.finished.ensures.places c.finished.ensures.size)

pub returns-clause-size : goal.returns-clause-size
returns-clause-size c =
    let planned = plan_is c.args.kept.now c.as_slice-2.result.now c.args.sections.now c.as_slice-sections.result.now c.args.slots.now c.args.islands.now c.args.sizes.now c.args.command.now c.as_slice-3.result.now c.area_unit.result c.in_ok-groups.groups.items c.as_slice.result.now c.base_of-base.result c.lead_of-lead.result _ c.as_slice-2.ensures c.as_slice-sections.ensures c.as_slice-3.ensures.all c.area_unit.ensures.exact (ap (λ (m : MadeSizes). let b : MadeBytes = record { stubs = m.stubs; unwind = m.unwind; got = m.got; tlv = m.tlv } in b) c.made_sizes.ensures) c.in_ok-groups.ensures c.base_of-base.ensures c.as_slice.ensures.value c.lead_of-lead.ensures.exact in
    let plan : Plan = record { atoms = spaced c.as_slice-2.result.now c.as_slice-3.result.now c.area_unit.result; groups = c.in_ok-groups.groups.items; base = c.base_of-base.result; lead = c.lead_of-lead.result } in
    let is : IsBased plan = based c.as_slice-sections.result.now c.args.sizes.now c.args.command.now plan _ c.as_slice.result.now c.base_of-base.ensures c.in_ok-groups.ensures c.as_slice.ensures.value c.lead_of-lead.ensures.exact in
    let sized = subst (λ (n : ℕ). MatchResult c.finished.result (λ (layout : Layout). n - plan.base < 2 ^ 32) (IsTooLarge (n - plan.base))) c.in_ok-laid.ensures.end c.finished.ensures.size in
    subst (λ (plan : Plan). MatchResult c.finished.result (λ (layout : Layout). image_size plan < 2 ^ 32) (IsTooLarge (image_size plan))) planned sized

pub returns-clause-whole : goal.returns-clause-whole
returns-clause-whole c =
    let plan : Plan = record { atoms = spaced c.as_slice-2.result.now c.as_slice-3.result.now c.area_unit.result; groups = c.in_ok-groups.groups.items; base = c.base_of-base.result; lead = c.lead_of-lead.result } in
    let is : IsBased plan = based c.as_slice-sections.result.now c.args.sizes.now c.args.command.now plan _ c.as_slice.result.now c.base_of-base.ensures c.in_ok-groups.ensures c.as_slice.ensures.value c.lead_of-lead.ensures.exact in
    let segments = segments_finished c.args.command.now plan c.finished.result c.in_ok-laid.laid.segments.items c.in_ok-before.before.items c.in_ok-laid.laid.end c.in_ok-laid.laid.file is c.in_ok-laid.ensures.segments c.in_ok-before.ensures c.in_ok-laid.ensures.end c.in_ok-laid.ensures.file c.finished.ensures.segments c.finished.ensures.size in
    let sections = sections_finished plan c.finished.result c.in_ok-laid.laid.sections.items c.in_ok-laid.laid.end is c.in_ok-laid.ensures.sections c.in_ok-laid.ensures.end c.finished.ensures.sections c.finished.ensures.size in
    let sized = subst (λ (n : ℕ). MatchResult c.finished.result (λ (layout : Layout). n - plan.base < 2 ^ 32) (IsTooLarge (n - plan.base))) c.in_ok-laid.ensures.end c.finished.ensures.size in
    whole_finished c.args.command.now plan c.as_slice-sections.result.now _ c.finished.result c.base_of-base.ensures is.base c.in_ok-groups.ensures segments sections sized
