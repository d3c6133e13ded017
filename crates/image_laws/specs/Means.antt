-- What an image that was made holds in memory (`loader.h`: segment_command_64).
use Rattle.std.specs.Prelude.{ℕ, ◌+◌, ◌≡◌, ◌<◌, true, List, length, slice_get, All, Contains, Some, if◌then◌else◌}
use Rattle.std.specs.List.Sorted.{IsStrictlySortedBy}
use Rattle.std.specs.Ordering.{on}
use Rattle.mo_types.specs.Keys.{compare_keys}
use Rattle.mo_types.specs.Whole.{is_zerofill}
use Rattle.mo_types.specs.declared.goal.Goal.{Goal}
use Rattle.mo_types.specs.declared.goal.Goal.TheVariants.{Def, WeakSelf}
use Rattle.mo_types.specs.declared.key.AtomKey.{AtomKey}
use Rattle.mo_types.specs.declared.loaded.LoadedFile.{LoadedFile}
use Rattle.patch.specs.Patched.{ArePatched, IsOutside}
use Rattle.patch.specs.Range.{bytes_of}
use Rattle.patch.specs.declared.met.Met.{Met}
use Rattle.sect_place.specs.declared.layout.Layout.{Layout}
use Rattle.sect_place.specs.declared.layout.PlacedSection.{PlacedSection}
use Rattle.sect_place.specs.Addresses.{address_in}
use Rattle.patch.specs.declared.range.PlacedWork.{PlacedWork}
use Rattle.image_make.specs.declared.kept.KeptAtom.{KeptAtom}
use Rattle.image_make.specs.Made.{IsImage, ImageInputs, kept_of, rows_of}
use Rattle.fixup_chain.specs.declared.chains.Chains.{Chains}
use Rattle.fixup_chain.specs.declared.chains.Fixup.{Fixup}
use Rattle.field_laws.specs.Memory.{AreInMemory}
use Rattle.field_laws.specs.Pointers.{addresses_of}
use Rattle.image_read.specs.Held.{goal_address}
use Rattle.image_read.specs.Mapped.{mapped}

-- an image of what is made, with its layout, the pointers that the loader fills in, and their chains
pub record Imaged (m : ImageInputs) (image : List ℕ) : Type 0 where
  pub layout : Layout
  pub fixups : List Fixup
  pub chains : Chains
  pub is_image : IsImage m layout fixups chains image

-- the atoms that are kept rise by their keys
abbrev pub AreRising : ImageInputs → Type 0
AreRising m = IsStrictlySortedBy (on (λ (one : KeptAtom). one.atom.key) compare_keys) (kept_of m)

-- Once the image is loaded, each byte of a section is the one at the section's place in the file, and 0 where the section
-- has no bytes there.
abbrev pub IsSectionInMemory : List ℕ → PlacedSection → Type 0
IsSectionInMemory image section =
    (k : ℕ) → k < section.size → mapped image (section.address + k) ≡ (if is_zerofill section.section.kind then Some 0 else slice_get image (section.file_offset + k))

-- the bytes of an atom stand at its address, each field with its value and every other byte as its object has it
pub record IsInMemory (image : List ℕ) (files : List LoadedFile) (mets : PlacedWork → List Met) (row : PlacedWork) : Type 0 where
  pub bytes : List ℕ
  pub patched : ArePatched row.address (mets row) (bytes_of files row) bytes
  pub there : AreInMemory image row.address bytes

-- each byte of an atom that is part of no field is the one of its object
abbrev pub KeepsOtherBytes : List ℕ → List LoadedFile → (PlacedWork → List Met) → PlacedWork → Type 0
KeepsOtherBytes image files mets row =
    (k : ℕ) → k < length (bytes_of files row) → All (IsOutside k) (mets row) → mapped image (row.address + k) ≡ slice_get (bytes_of files row) k

-- so many zeros stand at an address
abbrev pub AreZeros : List ℕ → ℕ → ℕ → Type 0
AreZeros image address size = (k : ℕ) → k < size → mapped image (address + k) ≡ Some 0

-- a kept atom that stands at an address, in a section that has no bytes in the file
pub record IsZerofill (m : ImageInputs) (layout : Layout) (kept : KeptAtom) (address : ℕ) : Type 0 where
  pub section : PlacedSection
  pub of_layout : Contains layout.sections section
  pub zerofill : is_zerofill section.section.kind ≡ true
  pub listed : Contains section.section.atoms kept.atom.key
  pub keeps : Contains (kept_of m) kept
  pub stands : address_in layout.placed kept.atom.key ≡ Some address

-- a kept atom that stands at an address, in a section that has bytes in the file
pub record IsWritten (m : ImageInputs) (layout : Layout) (kept : KeptAtom) (address : ℕ) : Type 0 where
  pub row : PlacedWork
  pub of_rows : Contains (rows_of m layout) row
  pub atom : row.atom ≡ kept.atom
  pub file : row.file ≡ kept.file
  pub stands : row.address ≡ address

-- the image has a goal, at an address
abbrev pub IsGoalAt : List ℕ → Layout → Goal → ℕ → Type 0
IsGoalAt image layout goal address = goal_address image (addresses_of layout.placed) goal ≡ Some address

-- the places in an atom that stands at an address are goals of the image
abbrev pub HasGoals : List ℕ → Layout → AtomKey → ℕ → Type 0
HasGoals image layout key address =
    (name : List ℕ) (offset : ℕ) → IsGoalAt image layout (Def key offset) (address + offset) × IsGoalAt image layout (WeakSelf name key offset) (address + offset)
