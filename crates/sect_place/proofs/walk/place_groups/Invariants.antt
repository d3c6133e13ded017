use Rattle.std.proofs.Common.{◌≡◌, ◌+◌, ◌*◌, ◌^◌, ◌++◌, ◌<◌, ◌≤◌, All, length, map}
use Rattle.std.specs.Vec.Iter.{into_iter_items, into_iter_len}
use Rattle.sect_place.specs.Places.{spaced, groups_segments, groups_sections, groups_places, groups_end, groups_file}
use Rattle.sect_place.specs.inner.Room.{capped_place, capped_section, capped_segment}
use Rattle.sect_place.specs.declared.part.Group.{Group}
use Rattle.sect_place.specs.declared.part.Part.{Part}
use Rattle.sect_place.proofs.Spread.{Spreading}
use Rattle.sect_place.proofs.walk.place_groups.Given as goal

abbrev pub invariant-loop-group : goal.invariant-loop-group
invariant-loop-group l =
    let atoms = spaced l.room.kept.now l.room.areas.now l.room.unit in
    record {
      spreading : Spreading atoms l.at l.file l.lead (into_iter_items l.group-iterator) l.segments.items (l.initial.segments.items ++ map capped_segment (groups_segments atoms l.fn.base 0 l.fn.lead l.fn.groups.items)) l.sections.items (map capped_section (groups_sections atoms l.fn.base 0 l.fn.lead l.fn.groups.items)) l.placed.items (map capped_place (groups_places atoms l.fn.base l.fn.lead l.fn.groups.items)) (groups_end atoms l.fn.base l.fn.lead l.fn.groups.items) (groups_file atoms l.fn.base 0 l.fn.lead l.fn.groups.items);
      low : All (λ (group : Group). All (λ (part : Part). part.section.align ≤ 14) group.parts) (into_iter_items l.group-iterator);
      reach : l.at + l.lead ≤ 2 ^ 124 + 2 ^ 123 + length l.segments.items * 2 ^ 15 + length l.sections.items * 2 ^ 65 + length l.placed.items * (15 * 2 ^ 64);
      small : l.at < 2 ^ 127;
      small_lead : l.lead < 2 ^ 125;
      left : into_iter_len l.group-iterator ≡ length (into_iter_items l.group-iterator);
    }
