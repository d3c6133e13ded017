-- How the code holds imports.
use Rattle.std.specs.Prelude.{ℕ, ℤ, ◌≡◌, ◌<◌, ◌≤◌, ◌-◌, ◌^◌, ◌&&◌, Bool, true, false, not, List, [], ◌∷◌, ◌++◌, length, map, position, slice_index_or, Option, Some, None, unwrap_or, if◌then◌else◌}
use Rattle.std.specs.Str.{bytes_eq}
use Rattle.std.specs.Ordering.{eq_by_cmp}
use Rattle.indexmap.specs.IndexSet.{insert_all, insert_key}
use Rattle.fixup_chain.specs.ImportOrder.{Import, compare_imports}
use Rattle.sect_place.specs.declared.layout.Layout.{Layout}
use Rattle.fixup_chain.specs.Faults.{target_of}
use Rattle.fixup_chain.specs.Imports.{bound, import_of, imports_by, is_bound, is_small}
use Rattle.fixup_chain.specs.Words.{in_rebase, number_of}
use Rattle.fixup_chain.specs.declared.chains.Fixup.{Fixup}
use Rattle.fixup_chain.specs.declared.import_row.ImportRow.{ImportRow}
use Rattle.fixup_chain.specs.inner.InOrder.{in_order}
use Rattle.fixup_chain.specs.inner.Rows.{names_of, row_in, same_row}

-- the imports of some pointers in a form, in their order
unfoldable pub imports_in : Bool → List Fixup → List Import
imports_in wide fixups = in_order compare_imports (imports_by wide fixups)

-- an import of the wide form by its name's place
unfoldable pub row_of : List Fixup → Fixup → ImportRow
row_of fixups fixup = row_in (names_of (imports_in false fixups)) (import_of true fixup)

-- imports are the same
abbrev pub is_same : Import → Import → Bool
is_same = eq_by_cmp compare_imports

module _ {K : Type 0} (same : K → K → Bool) where
  -- what some pointers are bound to, each once, in the order of the pointers
  unfoldable pub gathered : (Fixup → K) → List Fixup → List K
  gathered of fixups = insert_all same [] (map of (bound fixups))

  -- some of it, and what one more pointer is bound to
  unfoldable pub noted : (Fixup → K) → List K → Fixup → List K
  noted of keys fixup = if is_bound fixup.goal then insert_key same keys (of fixup) else keys

  -- the index of a value among some, or 0
  unfoldable pub rank_in : List K → K → ℕ
  rank_in keys key = unwrap_or (position (same key) keys) 0

-- imports and one more, if there is one
abbrev pub noted_row : List ImportRow → Option ImportRow → List ImportRow
noted_row rows None = rows
noted_row rows (Some row) = insert_key same_row rows row

-- a value stands at a place of a list
pub record StandsAt {K : Type 0} (keys : List K) (place : ℕ) (key : K) : Type 0 where
  pub within : place < length keys
  pub is : (d : K) → slice_index_or keys place d ≡ key

-- what a pointer is bound to, if it is, stands at a place of a list
pub record HasPlace {K : Type 0} (of : Fixup → K) (keys : List K) (fixup : Fixup) (place : ℕ) : Type 0 where
  pub there : is_bound fixup.goal ≡ true → StandsAt keys place (of fixup)

-- pointers have a place each
pub record ArePlaces {K : Type 0} (of : Fixup → K) (fixups : List Fixup) (keys : List K) (places : List ℕ) : Type 0 where
  pub size : length places ≡ length fixups
  pub each : (k : ℕ) (f : Fixup) (p : ℕ) → k < length fixups → HasPlace of keys (slice_index_or fixups k f) (slice_index_or places k p)

-- the numbers at some places
abbrev pub numbers_by : List ℕ → List ℕ → List ℕ
numbers_by ranks places = map (λ place. slice_index_or ranks place 0) places

-- more than any offset that a word has room for
abbrev pub FAR : ℕ
FAR = 2 ^ 64 - 1

-- the offset, or what tells that no word has room for it
unfoldable pub offset_by : ℤ → ℕ
offset_by target = unwrap_or (in_rebase target) FAR

-- what is held for a pointer that isn't bound tells its offset
pub record HasOffset (layout : Layout) (fixup : Fixup) (held : ℕ) : Type 0 where
  pub is : is_bound fixup.goal ≡ false → held ≡ offset_by (target_of layout fixup)

-- the same of all pointers
pub record HaveOffsets (layout : Layout) (fixups : List Fixup) (all : List ℕ) : Type 0 where
  pub each : (k : ℕ) (f : Fixup) (h : ℕ) → k < length fixups → HasOffset layout (slice_index_or fixups k f) (slice_index_or all k h)

-- the same of the pointers from one up to another
pub record AreReady (layout : Layout) (fixups : List Fixup) (all : List ℕ) (from to : ℕ) : Type 0 where
  pub rises : from ≤ to
  pub within : to ≤ length fixups
  pub each : (k : ℕ) (f : Fixup) (h : ℕ) → from ≤ k → k < to → HasOffset layout (slice_index_or fixups k f) (slice_index_or all k h)

-- what is held for pointers that aren't bound is what was held before
pub record AreOthers (fixups : List Fixup) (before now : List ℕ) : Type 0 where
  pub each : (k : ℕ) (f : Fixup) (h : ℕ) → k < length fixups → is_bound (slice_index_or fixups k f).goal ≡ false → slice_index_or now k h ≡ slice_index_or before k h

-- the number of a pointer's import, if it is bound
pub record HasNumber (wide : Bool) (imports : List Import) (fixup : Fixup) (number : ℕ) : Type 0 where
  pub is : is_bound fixup.goal ≡ true → number ≡ number_of imports (import_of wide fixup)
  pub small : number ≤ length imports

-- pointers have a number each
pub record AreNumbers (wide : Bool) (fixups : List Fixup) (imports : List Import) (numbers : List ℕ) : Type 0 where
  pub size : length numbers ≡ length fixups
  pub each : (k : ℕ) (f : Fixup) (n : ℕ) → k < length fixups → HasNumber wide imports (slice_index_or fixups k f) (slice_index_or numbers k n)

-- the word of a bind has no room for its addend
abbrev pub is_large : Fixup → Bool
is_large fixup = is_bound fixup.goal && not (is_small fixup.addend)

-- the name of an import with its NUL, where the next import has another one
unfoldable pub name_before : Import → Option Import → List ℕ
name_before import None = import.name ++ 0 ∷ []
name_before import (Some next) = if bytes_eq import.name next.name then [] else import.name ++ 0 ∷ []
