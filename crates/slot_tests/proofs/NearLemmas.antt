-- Slots and stubs that are near enough.
use Rattle.std.proofs.Common.{◌≡◌, ℕ, ◌*◌, ◌^◌, ◌%◌, List, length, Option, Some, None, IfSome, refl, arith}
use Rattle.std.specs.Prelude.{unwrap_or}
use Rattle.mo_types.specs.declared.goal.Goal.{Goal}
use Rattle.slot_plan.specs.declared.list.Slots.{Slots}
use Rattle.slot_place.specs.Places.{HasRoom, HaveRoom}
use Rattle.slot_place.specs.Stubs.{AreNear, AreReached}
use Rattle.slot_place.specs.declared.places.SlotStarts.{SlotStarts}
use Rattle.slot_tests.specs.Near.{IsNear}

room : (unit : ℕ) (start : Option ℕ) (goals : List Goal) → IsNear (unit * length goals) start → HasRoom unit start goals
room unit None goals near = tt
room unit (Some at) goals near = omega (arith, near.1)

within : (unit : ℕ) (start : Option ℕ) (goals : List Goal) → IsNear (unit * length goals) start → IfSome start (λ at. AreNear (2 ^ 32) unit at goals)
within unit None goals near = tt
within unit (Some at) goals near = record { after = near.0; before = omega (arith, near.1) }

whole : (start : Option ℕ) → unwrap_or start 0 % 8 ≡ 0 → IfSome start (λ at. at % 8 ≡ 0)
whole None e = tt
whole (Some at) e = e

pub have_room : (starts : SlotStarts) (slots : Slots) → IsNear (8 * length slots.got) starts.got → IsNear (12 * length slots.stubs) starts.stubs → IsNear (8 * length slots.tlv) starts.tlv → HaveRoom starts slots
have_room starts slots got stubs tlv = record {
  got = room 8 starts.got slots.got got;
  stubs = room 12 starts.stubs slots.stubs stubs;
  tlv = room 8 starts.tlv slots.tlv tlv;
}

pub are_reached : (starts : SlotStarts) (slots : Slots) → IsNear (8 * length slots.got) starts.got → IsNear (12 * length slots.stubs) starts.stubs → unwrap_or starts.got 0 % 8 ≡ 0 → (base : ℕ) × AreReached base starts slots
are_reached starts slots got stubs e = (
  2 ^ 32,
  record {
    page = refl;
    stubs = within 12 starts.stubs slots.stubs stubs;
    got = within 8 starts.got slots.got got;
    whole = whole starts.got e;
  },
)

pub ruleset near = (have_room, are_reached)
