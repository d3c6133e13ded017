-- What the field of a reference tells when the image is loaded, by the reference's kind and goal: the table that joins
-- the readings of `Meaning` to goals (`mach-o/arm64/reloc.h`).
use Rattle.std.specs.Prelude.{ℕ, ◌*◌, ◌/◌, ◌%◌, ◌≡◌, ◌==◌, ℤ, pos, ◌+ℤ◌, ◌-ℤ◌, List, Option, Some, None, if◌then◌else◌}
use Rattle.std.specs.Int.{cast_signed, w64}
use Rattle.std.specs.Option.{option_and_then, option_map}
use Rattle.arm64_insn.specs.Field.{twos_complement}
use Rattle.mo_format.specs.declared.loader.TheConstants.{S_THREAD_LOCAL_VARIABLES}
use Rattle.mo_types.specs.declared.goal.Goal.{Goal}
use Rattle.mo_types.specs.declared.goal.Goal.TheVariants.{Def, WeakSelf, Header, Import, Flat, Nobody}
use Rattle.mo_types.specs.declared.reference.Ref.{Ref}
use Rattle.mo_types.specs.declared.reference.RefKind.{RefKind}
use Rattle.mo_types.specs.declared.reference.RefKind.TheVariants.{Pointer, Diff32, Diff64, Branch, Page, PageOff, GotPage, GotPageOff, GotDelta, GotPointer, TlvPage, TlvPageOff}
use Rattle.image_read.specs.Fixups.{fixup_at}
use Rattle.image_read.specs.Held.{AtomMap, Held, goal_address, in_atom, target_of}
use Rattle.image_read.specs.Meaning.{denote}
use Rattle.image_read.specs.Reaches.{Reaches}
use Rattle.image_read.specs.declared.fixups.FixupRead.TheVariants.{Plain}
use Rattle.image_read.specs.declared.meaning.Meaning.{Meaning}
use Rattle.image_read.specs.declared.meaning.Meaning.TheVariants.{Address, Imported, Difference, Low12}

-- what a link has placed: the addresses of the image's atoms, and the offsets of those in the template of thread-local
-- variables
pub record Places : Type 0 where
  pub addresses : AtomMap
  pub offsets : AtomMap

-- the page of an address, as an address, and the address's offset in it
abbrev pub page_of_address : ℕ → Meaning
page_of_address address = Address (address / 0x1000 * 0x1000)

abbrev pub offset_in_page : ℕ → Meaning
offset_in_page address = Low12 (address % 0x1000)

-- the low 12 bits of a number in two's complement
abbrev pub low_bits : ℤ → Meaning
low_bits number = Low12 (twos_complement 12 number)

-- a number as one of 64 bits in two's complement
abbrev pub wrapped : ℤ → ℤ
wrapped number = cast_signed w64 (twos_complement 64 number)

abbrev pub itself : ℤ → ℤ
itself number = number

-- the offset of a goal in the template
abbrev pub goal_offset : AtomMap → Goal → Option ℕ
goal_offset offsets (Def key offset) = in_atom offsets key offset
goal_offset offsets (WeakSelf name key offset) = in_atom offsets key offset
goal_offset offsets Header = None
goal_offset offsets (Import name ordinal by_weak optional) = None
goal_offset offsets (Flat name) = None
goal_offset offsets Nobody = None

-- that offset, where the pointer stands in a section of this type that holds descriptors
abbrev pub offset_for : ℕ → AtomMap → Goal → Option ℕ
offset_for section offsets goal = if section == S_THREAD_LOCAL_VARIABLES then goal_offset offsets goal else None

-- the distance of a goal plus an addend from another goal
abbrev pub distance_of : List ℕ → AtomMap → Goal → ℤ → Option Goal → Option ℤ
distance_of image addresses goal addend minus =
    option_and_then
    (λ target. option_map (λ from. target -ℤ pos from) (option_and_then (goal_address image addresses) minus))
    (target_of image addresses goal addend)

-- the field tells a goal plus an addend
pub record TellsTarget (image : List ℕ) (addresses : AtomMap) (p : ℕ) (kind : RefKind) (goal : Goal) (addend : ℤ) (tells : ℕ → Meaning) : Type 0 where
  pub target : ℕ
  pub stands : target_of image addresses goal addend ≡ Some (pos target)
  pub told : denote image p kind ≡ tells target

-- the field tells the low 12 bits of a goal plus an addend, which may be below 0
pub record TellsLowBits (image : List ℕ) (addresses : AtomMap) (p : ℕ) (goal : Goal) (addend : ℤ) : Type 0 where
  pub target : ℤ
  pub stands : target_of image addresses goal addend ≡ Some target
  pub told : denote image p PageOff ≡ low_bits target

-- the field tells a slot, whose fixup leads to the goal
pub record TellsSlot (image : List ℕ) (addresses : AtomMap) (p : ℕ) (kind : RefKind) (goal : Goal) (tells : ℕ → Meaning) : Type 0 where
  pub slot : ℕ
  pub held : Held image addresses (fixup_at image slot) goal (pos 0)
  pub told : denote image p kind ≡ tells slot

-- the field tells a distance
pub record TellsDistance (image : List ℕ) (addresses : AtomMap) (p : ℕ) (kind : RefKind) (goal : Goal) (addend : ℤ) (minus : Option Goal) (form : ℤ → ℤ) : Type 0 where
  pub distance : ℤ
  pub stands : distance_of image addresses goal addend minus ≡ Some distance
  pub told : denote image p kind ≡ Difference (form distance)

-- the field tells an address from which a branch reaches the goal
pub record TellsBranch (image : List ℕ) (addresses : AtomMap) (p : ℕ) (goal : Goal) (addend : ℤ) : Type 0 where
  pub to : ℕ
  pub told : denote image p Branch ≡ Address to
  pub reaches : Reaches image addresses to goal addend

-- the pointer is an import's, with an addend
pub record TellsImport (image : List ℕ) (addresses : AtomMap) (p : ℕ) (goal : Goal) (addend : ℤ) : Type 0 where
  pub import : ℕ
  pub told : denote image p Pointer ≡ Imported import addend
  pub held : Held image addresses (fixup_at image p) goal addend

-- the pointer is a goal's own address plus an addend, which the loader rebases
pub record TellsRebase (image : List ℕ) (addresses : AtomMap) (p : ℕ) (goal : Goal) (addend : ℤ) : Type 0 where
  pub tells : TellsTarget image addresses p Pointer goal addend Address
  pub held : Held image addresses (fixup_at image p) goal addend

-- the pointer is an offset in the template, which the loader leaves as it is
pub record TellsOffset (image : List ℕ) (p offset : ℕ) (addend : ℤ) : Type 0 where
  pub told : denote image p Pointer ≡ Difference (wrapped (pos offset +ℤ addend))
  pub plain : fixup_at image p ≡ Plain

-- pointers that aren't offsets in the template, by their goals
abbrev pub PointerDenotes : List ℕ → AtomMap → ℕ → Goal → ℤ → Type 0
PointerDenotes image addresses p (Def key offset) addend = TellsRebase image addresses p (Def key offset) addend
PointerDenotes image addresses p Header addend = TellsRebase image addresses p Header addend
PointerDenotes image addresses p (WeakSelf name key offset) addend = TellsImport image addresses p (WeakSelf name key offset) addend
PointerDenotes image addresses p (Import name ordinal by_weak optional) addend =
    TellsImport image addresses p (Import name ordinal by_weak optional) addend
PointerDenotes image addresses p (Flat name) addend = TellsImport image addresses p (Flat name) addend
PointerDenotes image addresses p Nobody addend = ⊥

-- pointers, by the offset in the template that they are to hold, if they are to hold one
abbrev pub PointerOrOffset : Option ℕ → List ℕ → AtomMap → ℕ → Goal → ℤ → Type 0
PointerOrOffset (Some offset) image addresses p goal addend = TellsOffset image p offset addend
PointerOrOffset None image addresses p goal addend = PointerDenotes image addresses p goal addend

-- the table, row by row
abbrev pub DenotesBy : RefKind → List ℕ → Places → ℕ → ℕ → Goal → ℤ → Option Goal → Type 0
DenotesBy Pointer image places p section goal addend minus =
    PointerOrOffset (offset_for section places.offsets goal) image places.addresses p goal addend
DenotesBy Diff32 image places p section goal addend minus = TellsDistance image places.addresses p Diff32 goal addend minus itself
DenotesBy Diff64 image places p section goal addend minus = TellsDistance image places.addresses p Diff64 goal addend minus wrapped
DenotesBy Branch image places p section goal addend minus = TellsBranch image places.addresses p goal addend
DenotesBy Page image places p section goal addend minus = TellsTarget image places.addresses p Page goal addend page_of_address
DenotesBy PageOff image places p section goal addend minus = TellsLowBits image places.addresses p goal addend
DenotesBy GotPage image places p section goal addend minus = TellsSlot image places.addresses p GotPage goal page_of_address
DenotesBy GotPageOff image places p section goal addend minus = TellsSlot image places.addresses p GotPageOff goal offset_in_page
DenotesBy GotDelta image places p section goal addend minus = TellsSlot image places.addresses p GotDelta goal Address
DenotesBy GotPointer image places p section goal addend minus = TellsSlot image places.addresses p GotPointer goal Address
DenotesBy TlvPage image places p section goal addend minus = TellsSlot image places.addresses p TlvPage goal page_of_address
DenotesBy TlvPageOff image places p section goal addend minus = TellsSlot image places.addresses p TlvPageOff goal offset_in_page

-- In an image whose atoms stand at these places, the field at p, of a reference from a section of this type, tells the
-- reference's goal, and that of what is subtracted from it.
abbrev pub Denotes : List ℕ → Places → ℕ → ℕ → Ref → Goal → Option Goal → Type 0
Denotes image places p section reference goal minus = DenotesBy reference.kind image places p section goal reference.addend minus
