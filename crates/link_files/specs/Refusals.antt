-- How a link tells what it found.
use Rattle.std.specs.Prelude.{ℕ, ◌≡◌, false, List, Option, Some, None, IsSome}
use Rattle.std.specs.Cmp.Lexicographic.{slice_cmp}
use Rattle.std.specs.Ordering.{is_gt, nat_cmp}
use Rattle.image_make.specs.declared.fault.MakeFault.{MakeFault}
use Rattle.image_make.specs.declared.fault.MakeFault.TheVariants as make
use Rattle.command_line.specs.declared.command.Command.{Command}
use Rattle.mo_types.specs.declared.answer.Refusal.{Refusal}
use Rattle.mo_types.specs.declared.answer.Refusal.TheVariants as refusal
use Rattle.mo_types.specs.declared.cause.RangeKind.TheVariants.{ImageSize}
use Rattle.mo_types.specs.declared.key.FileId.{FileId}
use Rattle.mo_types.specs.declared.loaded.LoadedFile.{LoadedFile}
use Rattle.symbol_winners.specs.Duplicates.{duplicate_of}
use Rattle.sect_place.specs.declared.size.PlaceFault.TheVariants as place
use Rattle.link_files.specs.Names.{label_of}

-- no name has two strong definitions
abbrev pub AreOnce : List LoadedFile → Type 0
AreOnce files = (name : List ℕ) → duplicate_of files name ≡ None

-- a name has two, and no lesser name has; the files are those of its first two
pub record IsTwice (files : List LoadedFile) (why : Refusal) : Type 0 where
  pub name : List ℕ
  pub pair : FileId × FileId
  pub twice : duplicate_of files name ≡ Some pair
  pub least : (other : List ℕ) → IsSome (duplicate_of files other) → is_gt (slice_cmp nat_cmp name other) ≡ false
  pub told : why ≡ refusal.Duplicate name (label_of files pair.0) (label_of files pair.1)

-- the refusal of the least name with two strong definitions, or that there is none
abbrev pub IsDuplicateTold : List LoadedFile → Option Refusal → Type 0
IsDuplicateTold files None = AreOnce files
IsDuplicateTold files (Some why) = IsTwice files why

-- An image that is too large is refused by its path and its size. A value that is out of range is refused by the file of its
-- atom and the place there, and that of a slot by the image's path. Want of memory is no refusal.
abbrev pub IsToldAs : Command → List LoadedFile → MakeFault → Refusal → Type 0
IsToldAs command files (make.Place (place.ImageSize value)) why = why ≡ refusal.Range command.output 0 ImageSize value
IsToldAs command files (make.Place place.OutOfMemory) why = ⊥
IsToldAs command files (make.Range None fault) why = why ≡ refusal.Range command.output 0 fault.kind fault.value
IsToldAs command files (make.Range (Some key) fault) why = why ≡ refusal.Range (label_of files key.file) fault.file_place fault.kind fault.value
IsToldAs command files make.OutOfMemory why = ⊥
