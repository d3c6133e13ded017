-- The pointers of an image that the loader fills in (`fixup-chains.h`): those of its slots, and those of its atoms.
use Rattle.std.specs.Prelude.{ℕ, ◌+◌, ◌<◌, ◌≤◌, ◌^◌, ◌⊎◌, ℤ, pos, ◌-ℤ◌, List, [], ◌++◌, All, map, Option, Some, None, IsPermutation, if◌then◌else◌}
use Rattle.std.specs.List.{AllPairs, enumerate_from, filter_map, flat_map}
use Rattle.std.specs.Option.{option_map, option_map_or}
use Rattle.fixup_chain.specs.Encoded.{AreApart}
use Rattle.fixup_chain.specs.declared.chains.Fixup.{Fixup}
use Rattle.mo_types.specs.declared.goal.Goal.{Goal}
use Rattle.mo_types.specs.declared.goal.Goal.TheVariants.{Header}
use Rattle.mo_types.specs.declared.reference.Ref.{Ref}
use Rattle.mo_types.specs.declared.reference.RefKind.{RefKind}
use Rattle.mo_types.specs.declared.reference.RefKind.TheVariants.{Pointer, GotPointer}
use Rattle.patch.specs.declared.range.PlacedWork.{PlacedWork}
use Rattle.slot_place.specs.Places.{starts_of, unit_at}
use Rattle.slot_plan.specs.declared.need.Way.TheVariants.{Got}
use Rattle.ref_meet.specs.Addresses.{address_by}
use Rattle.ref_meet.specs.Scene.{Scene, goal_of, refs_of}
use Rattle.ref_meet.specs.Template.{holds_offset}
use Rattle.ref_meet.specs.declared.pointers.Pointee.{Pointee}

-- ---- of atoms

-- a pointer to a goal, unless it holds an offset in the template
abbrev pub pointee_of : Scene → PlacedWork → Goal → ℤ → Option Pointee
pointee_of scene item goal addend = if holds_offset scene.files item goal then None else Some (record { goal = goal; addend = addend })

-- a pointer to the slot of a goal: the header, and the slot's offset from there
abbrev pub slot_pointee : Scene → Goal → Option Pointee
slot_pointee scene goal =
    option_map (λ slot. record { goal = Header; addend = pos slot -ℤ pos scene.base }) (address_by scene (Some Got) goal)

abbrev pub pointee_by : RefKind → Scene → PlacedWork → Goal → ℤ → Option Pointee
pointee_by Pointer scene item goal addend = pointee_of scene item goal addend
pointee_by GotPointer scene item goal addend = slot_pointee scene goal
pointee_by _ scene item goal addend = None

unfoldable pub pointee : Scene → PlacedWork → Ref → Option Pointee
pointee scene item r = pointee_by r.kind scene item (goal_of scene item.file r.target) r.addend

abbrev pub fixup_to : PlacedWork → Ref → Pointee → Fixup
fixup_to item r p = record {
  atom = Some item.atom.key;
  place = r.file_place;
  address = item.address + r.place;
  goal = p.goal;
  addend = p.addend;
}

-- that of a reference of a placed atom
unfoldable pub fixup_of : Scene → PlacedWork → Ref → Option Fixup
fixup_of scene item r = option_map (fixup_to item r) (pointee scene item r)

unfoldable pub row_fixups : Scene → PlacedWork → List Fixup
row_fixups scene item = filter_map (fixup_of scene item) (refs_of scene.files item)

-- ---- of slots

-- a slot holds its goal
abbrev pub slot_fixup : ℕ → ℕ × Goal → Fixup
slot_fixup start p = record { atom = None; place = 0; address = unit_at 8 start p.0; goal = p.1; addend = pos 0 }

-- those of a section that begins at an address, if the image has it
unfoldable pub slot_fixups : Option ℕ → List Goal → List Fixup
slot_fixups start goals = option_map_or (λ at. map (slot_fixup at) (enumerate_from 0 goals)) start []

-- ---- all

unfoldable pub all_fixups : Scene → List PlacedWork → List Fixup
all_fixups scene items =
    slot_fixups (starts_of scene.layout.sections).got scene.slots.got
    ++ (slot_fixups (starts_of scene.layout.sections).tlv scene.slots.tlv ++ flat_map (row_fixups scene) items)

-- the image begins below 2^63, and the fields of its atoms have addresses of 64 bits
pub record EndLow (scene : Scene) (items : List PlacedWork) : Type 0 where
  pub base : scene.base < 2 ^ 63
  pub fields : All (λ item. All (λ r. item.address + r.place < 2 ^ 64) (refs_of scene.files item)) items

-- one of two pointers of 8 bytes ends where the other begins or before
abbrev pub AreBeside : Fixup → Fixup → Type 0
AreBeside a b = (a.address + 8 ≤ b.address) ⊎ (b.address + 8 ≤ a.address)

-- no two of the pointers have a byte in common
abbrev pub AreSpread : Scene → List PlacedWork → Type 0
AreSpread scene items = AllPairs AreBeside (all_fixups scene items)

-- the pointers of an image, in the order of their addresses
pub record AreFixups (scene : Scene) (items : List PlacedWork) (fixups : List Fixup) : Type 0 where
  pub apart : AreApart fixups
  pub all : IsPermutation (all_fixups scene items) fixups
