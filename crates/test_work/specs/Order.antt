-- References that are listed in the order of their places.
use Rattle.std.specs.Prelude.{ℕ, ◌+◌, ◌≤◌, ◌⊎◌, List}
use Rattle.std.specs.List.{AllPairs}
use Rattle.patch.specs.declared.met.Met.{Met}
use Rattle.patch.specs.Patched.{AreFields, size_of}

-- a field ends where another one begins, or before
abbrev pub IsBefore : Met → Met → Type 0
IsBefore a b = a.place + size_of a ≤ b.place

abbrev pub IsAfter : Met → Met → Type 0
IsAfter a b = IsBefore b a

-- fields that lie apart and are listed by rising or by falling place
pub record AreFieldsInOrder (address size : ℕ) (mets : List Met) : Type 0 where
  pub fields : AreFields address size mets
  pub order : AllPairs IsBefore mets ⊎ AllPairs IsAfter mets
