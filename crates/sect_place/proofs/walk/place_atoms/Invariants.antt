use Rattle.std.proofs.Common.{◌+◌, ◌*◌, ◌^◌, ◌<◌, ◌≤◌, ◌++◌, length, drop, map}
use Rattle.tlv_plan.specs.Template.{stand, end_of}
use Rattle.sect_place.specs.Places.{spaced, places}
use Rattle.sect_place.specs.inner.Room.{capped_place}
use Rattle.sect_place.proofs.Laid.{Going}
use Rattle.sect_place.proofs.walk.place_atoms.Given as goal

abbrev pub invariant-loop-key : goal.invariant-loop-key
invariant-loop-key l =
    let kept = l.room.kept.now in
    let areas = l.room.areas.now in
    let all = spaced kept areas l.room.unit l.keys in
    record {
      going : Going (spaced kept areas l.room.unit (drop l.key-index l.keys)) l.at l.placed.items (l.initial.placed.items ++ map capped_place (places (stand l.fn.from all))) (end_of l.fn.from all);
      reach : l.at + length l.initial.placed.items * (15 * 2 ^ 64) ≤ l.fn.from + length l.placed.items * (15 * 2 ^ 64);
      small : l.at < 2 ^ 127;
    }
