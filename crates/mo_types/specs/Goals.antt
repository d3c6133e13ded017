-- Goals in the order of the slots: those with a name by its bytes, then the header, then places in atoms by
-- atom and offset. Goals of one name that differ, of which a link has none, stand by what else they hold.
use Rattle.std.specs.Prelude.{ℕ, Bool, true, false, List, [], ◌∷◌}
use Rattle.std.specs.declared.cmp.Ordering.{Ordering}
use Rattle.std.specs.Ordering.{nat_cmp, on, then_cmp}
use Rattle.std.specs.Cmp.Lexicographic.{slice_cmp}
use Rattle.mo_types.specs.declared.goal.Goal.{Goal}
use Rattle.mo_types.specs.declared.goal.Goal.TheVariants.{Def, WeakSelf, Header, Import, Flat, Nobody}
use Rattle.mo_types.specs.declared.key.AtomKey.{AtomKey}

abbrev pub group_of : Goal → ℕ
group_of (Def key offset) = 2
group_of (WeakSelf name key offset) = 0
group_of Header = 1
group_of (Import name ordinal by_weak optional) = 0
group_of (Flat name) = 0
group_of Nobody = 3

abbrev pub name_of : Goal → List ℕ
name_of (Def key offset) = []
name_of (WeakSelf name key offset) = name
name_of Header = []
name_of (Import name ordinal by_weak optional) = name
name_of (Flat name) = name
name_of Nobody = []

abbrev pub bit : Bool → ℕ
bit false = 0
bit true = 1

-- a place in an atom: the atom's file, its section and its offset there, and the offset in it
abbrev pub place_numbers : AtomKey → ℕ → List ℕ
place_numbers key offset = 0 ∷ key.file.position ∷ key.file.member ∷ key.section ∷ key.offset ∷ offset ∷ []

abbrev pub numbers_of : Goal → List ℕ
numbers_of (Def key offset) = place_numbers key offset
numbers_of (WeakSelf name key offset) = place_numbers key offset
numbers_of Header = 0 ∷ 0 ∷ 0 ∷ 0 ∷ 0 ∷ 0 ∷ []
numbers_of (Import name ordinal by_weak optional) = 1 ∷ ordinal ∷ bit by_weak ∷ bit optional ∷ 0 ∷ 0 ∷ []
numbers_of (Flat name) = 2 ∷ 0 ∷ 0 ∷ 0 ∷ 0 ∷ 0 ∷ []
numbers_of Nobody = 0 ∷ 0 ∷ 0 ∷ 0 ∷ 0 ∷ 0 ∷ []

unfoldable pub compare_goals : Goal → Goal → Ordering
compare_goals = then_cmp (on group_of nat_cmp) (then_cmp (on name_of (slice_cmp nat_cmp)) (on numbers_of (slice_cmp nat_cmp)))
