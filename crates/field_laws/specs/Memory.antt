-- What stands in memory once an image is loaded (`loader.h`: segment_command_64).
use Rattle.std.specs.Prelude.{ℕ, ◌+◌, ◌≡◌, ◌<◌, List, length, slice_get, Option, Some}
use Rattle.mo_types.specs.declared.reference.RefKind.{RefKind}
use Rattle.mo_types.specs.declared.reference.RefKind.TheVariants.{Pointer, Diff64, GotPointer}
use Rattle.patch.specs.Reading.{Tells}
use Rattle.patch.specs.declared.met.Met.{Met}
use Rattle.image_read.specs.Mapped.{mapped}
use Rattle.image_read.specs.Meaning.{long_in, word_in}

-- some bytes stand at an address
abbrev pub AreInMemory : List ℕ → ℕ → List ℕ → Type 0
AreInMemory image address bytes = (k : ℕ) → k < length bytes → mapped image (address + k) ≡ slice_get bytes k

-- the number of a field at an address, of 8 or of 4 bytes by its kind
abbrev pub number_in : RefKind → List ℕ → ℕ → Option ℕ
number_in Pointer image p = long_in image p
number_in Diff64 image p = long_in image p
number_in GotPointer image p = long_in image p
number_in _ image p = word_in image p

-- the field at an address, of this kind, has a number that tells what was met
pub record HoldsBy (kind : RefKind) (image : List ℕ) (p : ℕ) (met : Met) : Type 0 where
  pub number : ℕ
  pub there : number_in kind image p ≡ Some number
  pub tells : Tells kind p number met

-- the field at an address holds what was met
abbrev pub Holds : List ℕ → ℕ → Met → Type 0
Holds image p met = HoldsBy met.kind image p met
