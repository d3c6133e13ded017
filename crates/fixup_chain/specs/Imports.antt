-- The imports of an image: what its pointers are bound to (`fixup-chains.h`: dyld_chained_import,
-- dyld_chained_import_addend64; `loader.h`: BIND_SPECIAL_DYLIB_FLAT_LOOKUP, BIND_SPECIAL_DYLIB_WEAK_LOOKUP).
use Rattle.std.specs.Prelude.{ℕ, ◌^◌, ◌≡◌, ◌&&◌, ◌||◌, Bool, true, false, not, nat_le, nat_lt, ℤ, pos, negsuc, List, [], ◌∷◌, ◌++◌, map, length, Contains, if◌then◌else◌}
use Rattle.std.specs.List.{filter, list_any}
use Rattle.std.specs.List.Sorted.{IsStrictlySortedBy}
use Rattle.std.specs.Str.{bytes_eq}
use Rattle.mo_types.specs.Goals.{name_of}
use Rattle.mo_types.specs.declared.goal.Goal.{Goal}
use Rattle.mo_types.specs.declared.goal.Goal.TheVariants as goal
use Rattle.fixup_chain.specs.ImportOrder.{Import, compare_imports}
use Rattle.fixup_chain.specs.declared.chains.Fixup.{Fixup}

-- the loader looks the goal up by its name
abbrev pub is_bound : Goal → Bool
is_bound (goal.Def key offset) = false
is_bound (goal.WeakSelf name key offset) = true
is_bound goal.Header = false
is_bound (goal.Import name ordinal by_weak optional) = true
is_bound (goal.Flat name) = true
is_bound goal.Nobody = false

-- the ordinals -2 and -3 in 16 bits: a look-up in all images, and one as a weak definition
abbrev pub FLAT_LOOKUP : ℕ
FLAT_LOOKUP = 0xfffe

abbrev pub WEAK_LOOKUP : ℕ
WEAK_LOOKUP = 0xfffd

-- the number of the library that has the name, or one of these
abbrev pub ordinal_of : Goal → ℕ
ordinal_of (goal.Def key offset) = 0
ordinal_of (goal.WeakSelf name key offset) = WEAK_LOOKUP
ordinal_of goal.Header = 0
ordinal_of (goal.Import name ordinal by_weak optional) = if by_weak then WEAK_LOOKUP else ordinal
ordinal_of (goal.Flat name) = FLAT_LOOKUP
ordinal_of goal.Nobody = 0

-- whether the name may be missing
abbrev pub optional_of : Goal → Bool
optional_of (goal.Def key offset) = false
optional_of (goal.WeakSelf name key offset) = false
optional_of goal.Header = false
optional_of (goal.Import name ordinal by_weak optional) = optional
optional_of (goal.Flat name) = false
optional_of goal.Nobody = false

-- the pointers that are bound
unfoldable pub bound : List Fixup → List Fixup
bound fixups = filter (λ fixup. is_bound fixup.goal) fixups

-- what a pointer is bound to: in the wide form with its addend, which in the narrow form its word has
unfoldable pub import_of : Bool → Fixup → Import
import_of wide fixup = record {
  name = name_of fixup.goal;
  addend = if wide then fixup.addend else pos 0;
  ordinal = ordinal_of fixup.goal;
  optional = optional_of fixup.goal;
}

unfoldable pub imports_by : Bool → List Fixup → List Import
imports_by wide fixups = map (import_of wide) (bound fixups)

-- the imports of a list, each once, by their names, and those of one name by their addends
pub record AreImports (given imports : List Import) : Type 0 where
  pub rising : IsStrictlySortedBy compare_imports imports
  pub all : (import : Import) → Contains given import → Contains imports import
  pub only : (import : Import) → Contains imports import → Contains given import

-- a name with its NUL, at the last one of the imports that have it
unfoldable pub last_name : Import → List Import → List ℕ
last_name import [] = import.name ++ 0 ∷ []
last_name import (next ∷ imports) = if bytes_eq import.name next.name then [] else import.name ++ 0 ∷ []

unfoldable pub names_with_nul : List Import → List ℕ
names_with_nul [] = []
names_with_nul (import ∷ imports) = last_name import imports ++ names_with_nul imports

-- the pool of the names: a NUL, and each name of imports in their order once, with a NUL
abbrev pub pool_of : List Import → List ℕ
pool_of imports = 0 ∷ names_with_nul imports

-- a word of the narrow form has room for the addend
abbrev pub is_small : ℤ → Bool
is_small (pos n) = nat_lt n 256
is_small (negsuc n) = false

-- The form of the imports is the wide one where an addend has no room in its pointer's word, or a name may stand too
-- far in the pool for an import of the narrow form.
unfoldable pub is_wide : List Fixup → List ℕ → Bool
is_wide fixups pool = list_any (λ fixup. is_bound fixup.goal && not (is_small fixup.addend)) fixups || nat_le (2 ^ 23) (length pool)

-- the imports of some pointers, and their form
pub record AreFormed (fixups : List Fixup) (wide : Bool) (imports : List Import) : Type 0 where
  pub narrow : List Import
  pub are_narrow : AreImports (imports_by false fixups) narrow
  pub form : wide ≡ is_wide fixups (pool_of narrow)
  pub are : AreImports (imports_by wide fixups) imports
