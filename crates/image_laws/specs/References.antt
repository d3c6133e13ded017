-- The references of an image's atoms, and what they need of the image to tell their goals.
use Rattle.std.specs.Prelude.{ℕ, ◌+◌, ◌≡◌, ◌⊎◌, Bool, true, false, List, slice_get, Contains, IsSome, Option, Some, None, FitsSigned, if◌then◌else◌}
use Rattle.std.specs.Int.{w64}
use Rattle.std.specs.Option.{option_map}
use Rattle.chain_laws.specs.Carried.{HasOrdinal}
use Rattle.field_laws.specs.Pointers.{addresses_of}
use Rattle.fixup_chain.specs.Imports.{is_bound}
use Rattle.fixup_chain.specs.declared.chains.Fixup.{Fixup}
use Rattle.image_make.specs.Made.{ImageInputs, scene_of}
use Rattle.image_read.specs.Denotes.{Denotes, Places, goal_offset}
use Rattle.image_read.specs.Held.{AtomMap}
use Rattle.mo_types.specs.Goals.{name_of}
use Rattle.mo_types.specs.declared.goal.Goal.{Goal}
use Rattle.mo_types.specs.declared.loaded.LoadedFile.{LoadedFile}
use Rattle.mo_types.specs.declared.reference.Ref.{Ref}
use Rattle.mo_types.specs.declared.reference.RefKind.{RefKind}
use Rattle.mo_types.specs.declared.reference.RefKind.TheVariants.{Diff32, Diff64, GotPointer, Pointer}
use Rattle.mo_types.specs.declared.reference.Target.{Target}
use Rattle.patch.specs.declared.range.PlacedWork.{PlacedWork}
use Rattle.reader_laws.specs.Facts.{HasNoNul}
use Rattle.ref_meet.specs.Addresses.{address_by}
use Rattle.ref_meet.specs.Scene.{Scene, goal_of, is_ref_of, kind_in}
use Rattle.ref_meet.specs.Template.{holds_offset, leads_to_template, template_offset}
use Rattle.sect_place.specs.declared.layout.Layout.{Layout}
use Rattle.slot_needs.specs.Needs.{way_of}
use Rattle.slot_plan.specs.declared.list.Slots.{Slots}
use Rattle.slot_plan.specs.declared.need.Way.{Way}
use Rattle.slot_plan.specs.declared.need.Way.TheVariants.{Got}

-- a reference of a row's atom, as its file lists it
pub record IsReferenceOf (m : ImageInputs) (row : PlacedWork) (reference : Ref) : Type 0 where
  pub file : LoadedFile
  pub of_file : slice_get m.files row.file ≡ Some file
  pub among : Contains file.refs reference
  pub of_atom : is_ref_of row.atom.key.section row.atom.key.offset reference ≡ true

-- the type of the row's section
abbrev pub section_of : {m : ImageInputs} {row : PlacedWork} {reference : Ref} → IsReferenceOf m row reference → ℕ
section_of {row = row} is = kind_in is.file row.atom.key.section

-- ---- what a reference needs of the image

-- the image has the address by a way of a goal
abbrev pub HasAddress : Scene → Option Way → Goal → Type 0
HasAddress scene way goal = IsSome (address_by scene way goal)

-- the loader looks the goal up by its name, or the image has its address
abbrev pub IsHoldable : Scene → Goal → Type 0
IsHoldable scene goal = (is_bound goal ≡ true) ⊎ HasAddress scene None goal

-- the image has the address of what a difference subtracts
abbrev pub HasEnd : Scene → ℕ → Option Target → Type 0
HasEnd scene file None = ⊥
HasEnd scene file (Some target) = HasAddress scene None (goal_of scene file target)

-- what a pointer holds, if that is an offset in the template; all others the loader fills in (`AreFillable`)
abbrev pub HasOffset : Bool → Scene → Goal → Type 0
HasOffset true scene goal = IsSome (template_offset scene goal)
HasOffset false scene goal = Unit {0}

-- The image has what the field of a reference is told from: of a pointer the offset that it holds, of a difference both ends,
-- and of any other the address by the way in which the reference needs its goal.
abbrev pub IsServedBy : RefKind → Scene → PlacedWork → Ref → Goal → Type 0
IsServedBy Pointer scene row r goal = HasOffset (holds_offset scene.files row goal) scene goal
IsServedBy GotPointer scene row r goal = HasAddress scene (Some Got) goal
IsServedBy Diff32 scene row r goal = HasAddress scene None goal × HasEnd scene row.file r.minus
IsServedBy Diff64 scene row r goal = HasAddress scene None goal × HasEnd scene row.file r.minus
IsServedBy kind scene row r goal = HasAddress scene (way_of kind r.addend goal) goal

abbrev pub IsServed : ImageInputs → Layout → PlacedWork → Ref → Type 0
IsServed m layout row r = IsServedBy r.kind (scene_of m layout) row r (goal_of (scene_of m layout) row.file r.target)

-- ---- what the loader needs to fill a pointer in

-- its goal's name holds no NUL, a library has a number up to 240, the addend has 64 bits, and the goal can be held
pub record IsFillable (scene : Scene) (fixup : Fixup) : Type 0 where
  pub name : HasNoNul (name_of fixup.goal)
  pub ordinal : HasOrdinal fixup.goal
  pub addend : FitsSigned w64 fixup.addend
  pub goal : IsHoldable scene fixup.goal

abbrev pub AreFillable : Scene → List Fixup → Type 0
AreFillable scene fixups = (fixup : Fixup) → Contains fixups fixup → IsFillable scene fixup

-- ---- what a stub needs

-- each goal that has a stub has a slot, which the stub loads
pub record StubsHaveSlots (slots : Slots) : Type 0 where
  pub each : (goal : Goal) → Contains slots.stubs goal → Contains slots.got goal

-- ---- what the field tells

-- the offsets are those of the goals in the template of thread-local variables
abbrev pub AreOffsets : Scene → AtomMap → Type 0
AreOffsets scene offsets =
    (goal : Goal) → goal_offset offsets goal ≡ (if leads_to_template scene.files goal then template_offset scene goal else None)

-- the places of a layout's atoms, with offsets in the template
abbrev pub places_of : Layout → AtomMap → Places
places_of layout offsets = record { addresses = addresses_of layout.placed; offsets = offsets }

-- the field of a row's reference tells its goal
abbrev pub TellsGoal : ImageInputs → Layout → List ℕ → AtomMap → ℕ → PlacedWork → Ref → Type 0
TellsGoal m layout image offsets section row reference =
    Denotes image (places_of layout offsets) (row.address + reference.place) section reference
    (goal_of (scene_of m layout) row.file reference.target) (option_map (goal_of (scene_of m layout) row.file) reference.minus)
