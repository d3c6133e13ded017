-- What a look-up in a written section gives, and what its size hangs on.
use Rattle.std.specs.Prelude.{ℕ, ◌≡◌, ◌≢◌, ◌^◌, ◌<◌, ◌≤◌, ◌==◌, if◌then◌else◌, List, [], ◌∷◌, Option, Some, None, Contains}
use Rattle.std.specs.List.{AllByRecursion, position_or_len}
use Rattle.std.specs.List.Sorted.{IsStrictlySortedBy}
use Rattle.std.specs.Ordering.{nat_cmp, on}
use Rattle.unwind_out.specs.declared.row.UnwindRow.{UnwindRow}
use Rattle.unwind_out.specs.declared.lookup.UnwindHit.{UnwindHit}
use Rattle.unwind_out.specs.Lookup.{unwind, personality_at}
use Rattle.unwind_out.specs.Table.{personalities, output_encoding}

-- a function's numbers have 32 bits
pub record AreFields (row : UnwindRow) : Type 0 where
  pub function : row.function < 2 ^ 32
  pub end : row.end < 2 ^ 32
  pub lsda : row.lsda < 2 ^ 32
  pub personality : row.personality < 2 ^ 32

-- a place in no range of a function
abbrev pub Outside : ℕ → UnwindRow → Type 0
Outside offset row = row.function ≤ offset → offset < row.end → ⊥

-- nothing, or encoding 0
abbrev pub IsQuiet : Option UnwindHit → Type 0
IsQuiet None = Unit {0}
IsQuiet (Some hit) = hit.encoding ≡ 0

-- at each place in a function's range it is found, with its encoding and its language-specific data
abbrev pub FindsEach : List UnwindRow → List ℕ → Type 0
FindsEach rows section =
    (row : UnwindRow) (offset : ℕ) → Contains rows row → row.function ≤ offset → offset < row.end
    → unwind section offset ≡ Some (record { function = row.function; encoding = output_encoding (personalities rows) row; lsda = row.lsda })

-- at each other place nothing is, or encoding 0
abbrev pub FindsNoOther : List UnwindRow → List ℕ → Type 0
FindsNoOther rows section = (offset : ℕ) → AllByRecursion (Outside offset) rows → IsQuiet (unwind section offset)

-- the section names each function's personality: where its encoding says stands its slot, and where it has none its encoding names none
abbrev pub NamesEach : List UnwindRow → List ℕ → Type 0
NamesEach rows section =
    (row : UnwindRow) → Contains rows row
    → personality_at section (output_encoding (personalities rows) row) ≡ (if row.personality == 0 then None else Some row.personality)

-- the slots of the functions' personalities, each once, by rising offset
pub record ArePersonalities (rows : List UnwindRow) (slots : List ℕ) : Type 0 where
  pub rise : IsStrictlySortedBy nat_cmp slots
  pub each : (row : UnwindRow) → Contains rows row → row.personality ≢ 0 → Contains slots row.personality
  pub only : (slot : ℕ) → Contains slots slot → (slot ≢ 0) × (row : UnwindRow) × Contains rows row × (row.personality ≡ slot)

-- where a number first stands
abbrev pub first_place : List ℕ → ℕ → ℕ
first_place used number = position_or_len (λ other. other == number) used

-- the numbers that are used, each once, in the order of their first use
pub record AreFirstUses (used numbers : List ℕ) : Type 0 where
  pub each : (number : ℕ) → Contains used number → Contains numbers number
  pub only : (number : ℕ) → Contains numbers number → Contains used number
  pub order : IsStrictlySortedBy (on (first_place used) nat_cmp) numbers

-- A function as another one, whose slot is moved: its range and its encoding are the same, and it has language-specific data
-- where the other one has some.
pub record IsAlike (by : ℕ → ℕ) (row other : UnwindRow) : Type 0 where
  pub function : other.function ≡ row.function
  pub end : other.end ≡ row.end
  pub encoding : other.encoding ≡ row.encoding
  pub personality : other.personality ≡ by row.personality
  pub lsda : (other.lsda == 0) ≡ (row.lsda == 0)

-- functions as others, one by one
abbrev pub AreAlike : (ℕ → ℕ) → List UnwindRow → List UnwindRow → Type 0
AreAlike by [] [] = Unit {0}
AreAlike by [] (other ∷ others) = ⊥
AreAlike by (row ∷ rows) [] = ⊥
AreAlike by (row ∷ rows) (other ∷ others) = IsAlike by row other × AreAlike by rows others

-- Slots are moved in their order, and none becomes none.
pub record KeepsOrder (by : ℕ → ℕ) (slots : List ℕ) : Type 0 where
  pub none : by 0 ≡ 0
  pub some : (slot : ℕ) → Contains slots slot → 0 < by slot
  pub order : (a b : ℕ) → Contains slots a → Contains slots b → a < b → by a < by b
