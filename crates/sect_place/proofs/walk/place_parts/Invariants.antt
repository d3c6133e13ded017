use Rattle.std.proofs.Common.{◌≡◌, ◌+◌, ◌*◌, ◌^◌, ◌++◌, ◌≤◌, All, length, map}
use Rattle.std.specs.Vec.Iter.{into_iter_items, into_iter_len}
use Rattle.sect_place.specs.Places.{spaced, parts_sections, parts_places, parts_end, parts_filled}
use Rattle.sect_place.specs.inner.Room.{capped_place, capped_section}
use Rattle.sect_place.specs.declared.part.Part.{Part}
use Rattle.sect_place.proofs.Spread.{Laying}
use Rattle.sect_place.proofs.walk.place_parts.Given as goal

abbrev pub invariant-loop-part : goal.invariant-loop-part
invariant-loop-part l =
    let atoms = spaced l.room.kept.now l.room.areas.now l.room.unit in
    record {
      laying : Laying atoms l.start l.file l.at l.filled (into_iter_items l.part-iterator) l.sections.items (l.initial.sections.items ++ map capped_section (parts_sections atoms l.start l.file l.fn.from l.fn.parts.items)) l.placed.items (l.initial.placed.items ++ map capped_place (parts_places atoms l.fn.from l.fn.parts.items)) (parts_end atoms l.fn.from l.fn.parts.items) (parts_filled atoms l.fn.from l.fn.from l.fn.parts.items);
      low : All (λ (part : Part). part.section.align ≤ 14) (into_iter_items l.part-iterator);
      reach : l.at + length l.initial.sections.items * 2 ^ 65 + length l.initial.placed.items * (15 * 2 ^ 64) ≤ l.fn.from + length l.sections.items * 2 ^ 65 + length l.placed.items * (15 * 2 ^ 64);
      left : into_iter_len l.part-iterator ≡ length (into_iter_items l.part-iterator);
    }
