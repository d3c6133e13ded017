-- The atoms that stand in a piece of an image, with their fields.
use Rattle.std.specs.Prelude.{ℕ, ◌+◌, ◌-◌, ◌≡◌, ◌<◌, ◌≤◌, ◌⊎◌, false, List, [], length, take, drop, slice_get, slice_index, All, Contains, Result, Ok, Err}
use Rattle.std.specs.List.{AllPairs}
use Rattle.std.specs.Option.{option_map_or}
use Rattle.std.specs.Ordering.{is_gt}
use Rattle.mo_types.specs.AtomBytes.{atom_bytes}
use Rattle.mo_types.specs.Keys.{compare_keys}
use Rattle.mo_types.specs.declared.key.AtomKey.{AtomKey}
use Rattle.mo_types.specs.declared.loaded.LoadedFile.{LoadedFile}
use Rattle.patch.specs.declared.met.Met.{Met}
use Rattle.patch.specs.declared.met.RangeFault.{RangeFault}
use Rattle.patch.specs.declared.range.PatchFault.{PatchFault}
use Rattle.patch.specs.declared.range.PatchFault.TheVariants.{Range, OutOfMemory}
use Rattle.patch.specs.declared.range.PlacedWork.{PlacedWork}
use Rattle.patch.specs.Patched.{AreFields, ArePatched, Fits, IsFirstFault}

-- the bytes of an atom, as its object has them
unfoldable pub bytes_of : List LoadedFile → PlacedWork → List ℕ
bytes_of files item = option_map_or (λ file. atom_bytes file.object item.atom) (slice_get files item.file) []

-- the atom's bytes in a piece of the image that begins at an offset of the file
unfoldable pub part_of : List LoadedFile → ℕ → PlacedWork → List ℕ → List ℕ
part_of files from item piece = take (length (bytes_of files item)) (drop (item.at - from) piece)

-- an atom of a loaded file that stands in a piece of some bytes
pub record IsStanding (files : List LoadedFile) (from size : ℕ) (item : PlacedWork) : Type 0 where
  pub file : item.file < length files
  pub begins : from ≤ item.at
  pub ends : item.at + length (bytes_of files item) ≤ from + size

-- such atoms, which stand one behind the other
pub record AreStanding (files : List LoadedFile) (from size : ℕ) (work : List PlacedWork) : Type 0 where
  pub items : All (IsStanding files from size) work
  pub in_order : AllPairs (λ a b. a.at + length (bytes_of files a) ≤ b.at) work

-- the fields of an atom's references lie apart in its bytes
abbrev pub HasFields : List LoadedFile → (PlacedWork → List Met) → PlacedWork → Type 0
HasFields files mets item = AreFields item.address (length (bytes_of files item)) (mets item)

-- atoms that stand one behind the other, with references whose fields they have
pub record AreWork (files : List LoadedFile) (mets : PlacedWork → List Met) (from size : ℕ) (work : List PlacedWork) : Type 0 where
  pub stand : AreStanding files from size work
  pub fields : All (HasFields files mets) work

-- the bytes of an atom with its fields stand at its place
abbrev pub IsPlaced : List LoadedFile → (PlacedWork → List Met) → ℕ → List ℕ → PlacedWork → Type 0
IsPlaced files mets from piece item =
    ArePatched item.address (mets item) (bytes_of files item) (part_of files from item piece)

-- what an atom has in the piece are bytes
abbrev pub HasBytes : List LoadedFile → ℕ → List ℕ → PlacedWork → Type 0
HasBytes files from piece item = All (λ byte. byte < 256) (part_of files from item piece)

-- a byte of the piece is none of an atom's
abbrev pub IsBeside : List LoadedFile → ℕ → ℕ → PlacedWork → Type 0
IsBeside files from k item = (from + k < item.at) ⊎ (item.at + length (bytes_of files item) ≤ from + k)

-- the piece is as it was, but for the bytes of atoms
pub record IsSameBeside (files : List LoadedFile) (from : ℕ) (work : List PlacedWork) (old new : List ℕ) : Type 0 where
  pub size : length new ≡ length old
  pub others : (k : ℕ) → All (IsBeside files from k) work → slice_index new k ≡ slice_index old k

-- all values of an atom's references fit their fields
abbrev pub AllFit : List LoadedFile → (PlacedWork → List Met) → PlacedWork → Type 0
AllFit files mets item = All (Fits item.address (bytes_of files item)) (mets item)

-- a key that isn't above another one
abbrev pub IsUpTo : AtomKey → AtomKey → Type 0
IsUpTo a b = is_gt (compare_keys a b) ≡ false

-- the first fault of an atom, of those at fault the one with the least key
pub record IsLeastAtFault (files : List LoadedFile) (mets : PlacedWork → List Met) (work : List PlacedWork) (key : AtomKey) (fault : RangeFault) (item : PlacedWork) : Type 0 where
  pub among : Contains work item
  pub of_item : key ≡ item.atom.key
  pub fails : IsFirstFault item.address (bytes_of files item) (mets item) fault
  pub least : All (λ other. AllFit files mets other ⊎ IsUpTo key other.atom.key) work

-- the fault of the least atom key
abbrev pub IsLeastFault : List LoadedFile → (PlacedWork → List Met) → List PlacedWork → AtomKey → RangeFault → Type 0
IsLeastFault files mets work key fault = (item : PlacedWork) × IsLeastAtFault files mets work key fault item

-- What placing atoms answers: each stands with its fields, or the first value that doesn't fit is told of the atom with the
-- least key. Want of memory is left to the code.
abbrev pub IsPatched : List LoadedFile → (PlacedWork → List Met) → ℕ → List PlacedWork → List ℕ → Result (Unit {0}) PatchFault → Type 0
IsPatched files mets from work new (Ok done) = All (IsPlaced files mets from new) work
IsPatched files mets from work new (Err (Range key fault)) = IsLeastFault files mets work key fault
IsPatched files mets from work new (Err OutOfMemory) = Unit {0}
