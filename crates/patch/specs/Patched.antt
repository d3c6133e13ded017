-- The bytes of an atom whose references have met their targets.
use Rattle.std.specs.Prelude.{ℕ, ◌+◌, ◌≡◌, ◌<◌, ◌≤◌, ◌⊎◌, ◌^◌, List, length, slice_index, All, Contains, Ok, Err}
use Rattle.std.specs.List.{AllPairs}
use Rattle.mo_bytes.specs.Number.{number}
use Rattle.mo_types.specs.Rows.{field_size}
use Rattle.patch.specs.declared.met.Met.{Met}
use Rattle.patch.specs.declared.met.RangeFault.{RangeFault}
use Rattle.patch.specs.Field.{field_of}

-- the bytes of a reference's field
abbrev pub size_of : Met → ℕ
size_of met = field_size met.kind

-- no byte is part of both fields
abbrev pub AreApart : Met → Met → Type 0
AreApart a b = (a.place + size_of a ≤ b.place) ⊎ (b.place + size_of b ≤ a.place)

-- the fields of references lie apart in some bytes, which begin at an address and end below 2^64
pub record AreFields (address size : ℕ) (mets : List Met) : Type 0 where
  pub addresses : address + size < 2 ^ 64
  pub within : All (λ met. met.place + size_of met ≤ size) mets
  pub apart : AllPairs AreApart mets

-- a byte is no part of a reference's field
abbrev pub IsOutside : ℕ → Met → Type 0
IsOutside k met = (k < met.place) ⊎ (met.place + size_of met ≤ k)

-- each field holds what it is to hold, and every other byte is as it was
pub record ArePatched (address : ℕ) (mets : List Met) (old new : List ℕ) : Type 0 where
  pub size : length new ≡ length old
  pub fields : All (λ met. field_of address old met ≡ Ok (number (size_of met) new met.place)) mets
  pub others : (k : ℕ) → All (IsOutside k) mets → slice_index new k ≡ slice_index old k

-- the value of a reference doesn't fit its field
abbrev pub IsAtFault : ℕ → List ℕ → Met → RangeFault → Type 0
IsAtFault address bytes met fault = field_of address bytes met ≡ Err fault

-- the value of a reference fits its field
abbrev pub Fits : ℕ → List ℕ → Met → Type 0
Fits address bytes met = (value : ℕ) × (field_of address bytes met ≡ Ok value)

-- the fault of a reference, of those at fault the one at the least place
pub record IsFirstAtFault (address : ℕ) (bytes : List ℕ) (mets : List Met) (fault : RangeFault) (met : Met) : Type 0 where
  pub among : Contains mets met
  pub fails : IsAtFault address bytes met fault
  pub least : All (λ other. Fits address bytes other ⊎ (met.place ≤ other.place)) mets

-- the fault at the least place
abbrev pub IsFirstFault : ℕ → List ℕ → List Met → RangeFault → Type 0
IsFirstFault address bytes mets fault = (met : Met) × IsFirstAtFault address bytes mets fault met
