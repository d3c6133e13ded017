-- The fields of a structure, one after the other.
use Rattle.std.specs.Prelude.{ℕ, ◌≡◌, List, [], ◌∷◌, ◌++◌, length, take, drop}
use Rattle.mo_bytes.specs.Number.{number_bytes}

-- a number of some bytes, or a name of 16 bytes
pub data Field : Type 0 where
  Number : (width value : ℕ) → Field
  Name : (bytes : List ℕ) → Field

-- the name of 16 bytes that stands at a place
unfoldable pub name_at : List ℕ → ℕ → List ℕ
name_at bytes at = take 16 (drop at bytes)

abbrev pub field_bytes : Field → List ℕ
field_bytes (Number width value) = number_bytes width value
field_bytes (Name bytes) = bytes

-- the bytes of the fields
abbrev pub spelled : List Field → List ℕ
spelled [] = []
spelled (f ∷ fs) = field_bytes f ++ spelled fs

-- the structure is read where the old bytes ended, whatever follows the new ones
abbrev pub ReadsBack : {S : Type 0} → (List ℕ → ℕ → S) → List ℕ → List ℕ → S → Type 0
ReadsBack structure_at old new s = (rest : List ℕ) → structure_at (new ++ rest) (length old) ≡ s
