-- What a piece of an image holds after its atoms were placed, and the fault of two pieces.
use Rattle.std.specs.Prelude.{ℕ, List, Result, Ok, Err, if◌then◌else◌}
use Rattle.std.specs.Ordering.{is_gt}
use Rattle.mo_types.specs.Keys.{compare_keys}
use Rattle.mo_types.specs.declared.loaded.LoadedFile.{LoadedFile}
use Rattle.patch.specs.declared.met.Met.{Met}
use Rattle.patch.specs.declared.range.PatchFault.{PatchFault}
use Rattle.patch.specs.declared.range.PatchFault.TheVariants.{Range, OutOfMemory}
use Rattle.patch.specs.declared.range.PlacedWork.{PlacedWork}
use Rattle.patch.specs.Range.{IsPatched, IsSameBeside}

-- the fault of the lesser key, or the first one; want of memory in either comes before
abbrev pub least_of : Result (Unit {0}) PatchFault → Result (Unit {0}) PatchFault → Result (Unit {0}) PatchFault
least_of (Ok x) high = high
least_of (Err OutOfMemory) high = Err OutOfMemory
least_of (Err (Range a f)) (Ok x) = Err (Range a f)
least_of (Err (Range a f)) (Err OutOfMemory) = Err OutOfMemory
least_of (Err (Range a f)) (Err (Range b g)) = if is_gt (compare_keys a b) then Err (Range b g) else Err (Range a f)

-- what `patch_range` promises of a piece
pub record IsFilled (files : List LoadedFile) (mets : PlacedWork → List Met) (from : ℕ) (work : List PlacedWork) (old new : List ℕ) (answer : Result (Unit {0}) PatchFault) : Type 0 where
  pub beside : IsSameBeside files from work old new
  pub patched : IsPatched files mets from work new answer
