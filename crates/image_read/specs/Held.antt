-- Where goals stand, and what the fixup of a pointer or slot is that leads to a goal (`mach-o/fixup-chains.h`, `loader.h`).
use Rattle.std.specs.Prelude.{ℕ, ◌+◌, ◌≡◌, Bool, false, ℤ, pos, negsuc, ◌+ℤ◌, List, Option, Some, None, if◌then◌else◌}
use Rattle.std.specs.FinMap as map
use Rattle.std.specs.Option.{option_map}
use Rattle.mo_types.specs.Keys.{compare_keys}
use Rattle.mo_types.specs.declared.goal.Goal.{Goal}
use Rattle.mo_types.specs.declared.goal.Goal.TheVariants.{Def, WeakSelf, Header, Import, Flat, Nobody}
use Rattle.mo_types.specs.declared.key.AtomKey.{AtomKey}
use Rattle.image_read.specs.Imports.{import_name}
use Rattle.image_read.specs.Meaning.{base_of}
use Rattle.image_read.specs.declared.fixups.FixupRead.{FixupRead}
use Rattle.image_read.specs.declared.fixups.FixupRead.TheVariants.{Rebase, Bind}

-- a number for each of some atoms: their addresses, or their offsets in the template of thread-local variables
abbrev pub AtomMap : Type 0
AtomMap = map.FinMap compare_keys ℕ

-- a place in an atom, by the number of the atom
abbrev pub in_atom : AtomMap → AtomKey → ℕ → Option ℕ
in_atom numbers key offset = option_map (λ start. start + offset) (map.get numbers key)

-- The address of a goal that the image itself has: a place in an atom, or the header, which stands where __TEXT begins.
abbrev pub goal_address : List ℕ → AtomMap → Goal → Option ℕ
goal_address image addresses (Def key offset) = in_atom addresses key offset
goal_address image addresses (WeakSelf name key offset) = in_atom addresses key offset
goal_address image addresses Header = base_of image
goal_address image addresses (Import name ordinal by_weak optional) = None
goal_address image addresses (Flat name) = None
goal_address image addresses Nobody = None

-- that address plus an addend
abbrev pub target_of : List ℕ → AtomMap → Goal → ℤ → Option ℤ
target_of image addresses goal addend = option_map (λ address. pos address +ℤ addend) (goal_address image addresses goal)

-- BIND_SPECIAL_DYLIB_FLAT_LOOKUP and BIND_SPECIAL_DYLIB_WEAK_LOOKUP: the ordinals -2 and -3, in place of a library's
abbrev pub FLAT_LOOKUP : ℤ
FLAT_LOOKUP = negsuc 1

abbrev pub WEAK_LOOKUP : ℤ
WEAK_LOOKUP = negsuc 2

-- A fixup is a rebase to the address of a goal plus an addend: its offset counts from where __TEXT begins.
pub record IsRebaseTo (image : List ℕ) (addresses : AtomMap) (fixup : FixupRead) (goal : Goal) (addend : ℤ) : Type 0 where
  pub base : ℕ
  pub offset : ℕ
  pub rebase : fixup ≡ Rebase offset
  pub begins : base_of image ≡ Some base
  pub leads : target_of image addresses goal addend ≡ Some (pos (base + offset))

-- a fixup is a bind of a name, by the ordinal of the library that has it
pub record IsBindOf (image : List ℕ) (fixup : FixupRead) (name : List ℕ) (ordinal addend : ℤ) (optional : Bool) : Type 0 where
  pub import : ℕ
  pub bind : fixup ≡ Bind import ordinal addend optional
  pub named : import_name image import ≡ Some name

-- A fixup leads to a goal plus an addend.
abbrev pub Held : List ℕ → AtomMap → FixupRead → Goal → ℤ → Type 0
Held image addresses fixup (Def key offset) addend = IsRebaseTo image addresses fixup (Def key offset) addend
Held image addresses fixup Header addend = IsRebaseTo image addresses fixup Header addend
Held image addresses fixup (WeakSelf name key offset) addend = IsBindOf image fixup name WEAK_LOOKUP addend false
Held image addresses fixup (Flat name) addend = IsBindOf image fixup name FLAT_LOOKUP addend false
Held image addresses fixup (Import name ordinal by_weak optional) addend =
    IsBindOf image fixup name (if by_weak then WEAK_LOOKUP else pos ordinal) addend optional
Held image addresses fixup Nobody addend = ⊥
