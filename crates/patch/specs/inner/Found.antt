-- What placing one atom leaves, and the fault of the least key.
use Rattle.std.specs.Prelude.{ℕ, ◌≡◌, All, List, length, slice_index, Option, Some, None, Result, Ok, Err, if◌then◌else◌}
use Rattle.std.specs.Ordering.{is_gt}
use Rattle.mo_types.specs.Keys.{compare_keys}
use Rattle.mo_types.specs.declared.loaded.LoadedFile.{LoadedFile}
use Rattle.patch.specs.declared.met.Met.{Met}
use Rattle.patch.specs.declared.range.Fault.{Fault}
use Rattle.patch.specs.declared.range.Trouble.{Trouble}
use Rattle.patch.specs.declared.range.Trouble.TheVariants.{Range, OutOfMemory}
use Rattle.patch.specs.declared.range.PlacedWork.{PlacedWork}
use Rattle.patch.specs.Patched.{IsFirstFault}
use Rattle.patch.specs.Range.{AllFit, IsBeside, IsLeastFault, IsPlaced, bytes_of}

-- the fault of the lesser key, or the earlier one
abbrev pub lesser : Option Fault → Fault → Option Fault
lesser None fault = Some fault
lesser (Some other) fault = if is_gt (compare_keys other.key fault.key) then Some fault else Some other

-- the piece is as it was, but for the bytes of one atom
pub record IsBesideOne (files : List LoadedFile) (from : ℕ) (item : PlacedWork) (old new : List ℕ) : Type 0 where
  pub size : length new ≡ length old
  pub others : (k : ℕ) → IsBeside files from k item → slice_index new k ≡ slice_index old k

-- the fault of the least key, or none where all values fit
abbrev pub IsLeastSo : List LoadedFile → (PlacedWork → List Met) → List PlacedWork → Option Fault → Type 0
IsLeastSo files mets work None = All (AllFit files mets) work
IsLeastSo files mets work (Some fault) = IsLeastFault files mets work fault.key fault.fault

-- what placing one atom answers
abbrev pub IsOnePatched : List LoadedFile → (PlacedWork → List Met) → ℕ → List ℕ → PlacedWork → Result (Unit {0}) Trouble → Type 0
IsOnePatched files mets from new item (Ok done) = IsPlaced files mets from new item
IsOnePatched files mets from new item (Err (Range fault)) = IsFirstFault item.address (bytes_of files item) (mets item) fault
IsOnePatched files mets from new item (Err OutOfMemory) = Unit {0}
