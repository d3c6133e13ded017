-- What laying out an image and filling it with its atoms answer.
use Rattle.std.specs.Prelude.{ℕ, ◌≡◌, All, List, Some, Result, Ok, Err}
use Rattle.image_make.specs.declared.fault.MakeFault.{MakeFault}
use Rattle.image_make.specs.declared.fault.MakeFault.TheVariants.{Place, Range, OutOfMemory}
use Rattle.mo_types.specs.declared.key.AtomKey.{AtomKey}
use Rattle.mo_types.specs.declared.loaded.LoadedFile.{LoadedFile}
use Rattle.patch.specs.declared.met.Met.{Met}
use Rattle.patch.specs.declared.range.PlacedWork.{PlacedWork}
use Rattle.patch.specs.Range.{IsLeastFault, IsPlaced}
use Rattle.sect_place.specs.Layout.{IsTooLarge, Plan, image_size}
use Rattle.image_make.specs.Made.{ImageInputs, IsFilledImage, IsPlaceFault}

-- what is planned is too large
abbrev pub IsPlanFault : Plan → MakeFault → Type 0
IsPlanFault plan (Place fault) = IsTooLarge (image_size plan) fault
IsPlanFault plan (Range atom fault) = ⊥
IsPlanFault plan OutOfMemory = Unit {0}

-- what stands before `__LINKEDIT` is too large
abbrev pub IsLayFault : ImageInputs → MakeFault → Type 0
IsLayFault m (Place fault) = IsPlaceFault m fault
IsLayFault m (Range atom fault) = ⊥
IsLayFault m OutOfMemory = Unit {0}

-- a field can't hold its value
abbrev pub IsFillFault : List LoadedFile → (PlacedWork → List Met) → List PlacedWork → MakeFault → Type 0
IsFillFault files mets work (Range atom fault) = (key : AtomKey) × (atom ≡ Some key) × IsLeastFault files mets work key fault
IsFillFault files mets work (Place fault) = ⊥
IsFillFault files mets work OutOfMemory = Unit {0}

abbrev pub IsFilled : List LoadedFile → (PlacedWork → List Met) → List PlacedWork → List ℕ → Result (List ℕ) MakeFault → Type 0
IsFilled files mets work blank (Ok image) = IsFilledImage files mets work blank image
IsFilled files mets work blank (Err fault) = IsFillFault files mets work fault

-- whether all can, as some image shows
abbrev pub IsTold : List LoadedFile → (PlacedWork → List Met) → List PlacedWork → Result (Unit {0}) MakeFault → Type 0
IsTold files mets work (Ok done) = (image : List ℕ) × All (IsPlaced files mets 0 image) work
IsTold files mets work (Err fault) = IsFillFault files mets work fault
