-- The bytes of areas are those by which groups' islands move what is behind.
use Rattle.std.proofs.Common.{◌≡◌, ℕ, ◌+◌, ◌⊎◌, ◌==◌, ◌++◌, if◌then◌else◌, Bool, true, false, List, [], ◌∷◌, length, count_by, Option, Some, None, refl, sym, ap, ◌∙◌, inl, inr, arith, add-one}
use Rattle.std.specs.List.{AllByRecursion, filter}
use Rattle.std.specs.List.Sorted.{IsStrictlySortedBy}
use Rattle.std.specs.Ordering.{is_lt}
use Rattle.std.specs.declared.cmp.Ordering.TheVariants.{Less}
use Rattle.std.proofs.lemmas.Bool.{cases_Bool, false≢true}
use Rattle.std.proofs.lemmas.List.{length-map}
use Rattle.std.proofs.lemmas.List.Sums.{length-filter}
use Rattle.list_lemmas.proofs.Members.{In, all_in}
use Rattle.mo_types.proofs.KeyOrder.{compare_keys_total}
use Rattle.mo_types.specs.Keys.{compare_keys}
use Rattle.mo_types.specs.declared.key.AtomKey.{AtomKey}
use Rattle.sect_place.specs.Moved.{areas_bytes, counts}
use Rattle.sect_place.specs.Places.{islands_bytes}
use Rattle.sect_place.specs.declared.island.BranchTarget.{BranchTarget}
use Rattle.sect_place.specs.declared.island.IslandArea.{IslandArea}
use Rattle.island_core.specs.Far.{bytes_before, count_in}
use Rattle.island_core.specs.declared.row.Pair.{Pair}
use Rattle.islands.specs.Plan.{areas_from, filled, island_targets, target_at}
use Rattle.islands.specs.Text.{groups_before}
use Rattle.islands.proofs.Counting.{count_cons, is_less}
use Rattle.islands.proofs.Ways.{area_last}

abbrev here_bytes : ℕ → Option AtomKey → IslandArea → ℕ
here_bytes unit limit area = if counts limit area then islands_bytes unit (length area.targets) else 0

filled_bytes : (unit : ℕ) (limit : Option AtomKey) (area : IslandArea) (rest : List IslandArea) → areas_bytes unit limit (filled area ++ rest) ≡ here_bytes unit limit area + areas_bytes unit limit rest
unfolding areas_bytes
filled_bytes unit limit area rest = by (length area.targets == 0) refl (counts limit area) refl
  where
    by : (b : Bool) → (length area.targets == 0) ≡ b → (c : Bool) → counts limit area ≡ c → areas_bytes unit limit ((if b then [] else area ∷ []) ++ rest) ≡ here_bytes unit limit area + areas_bytes unit limit rest
    by false e c f = refl
    by true e true f = rw (f, e) (omega arith)
    by true e false f = rw f (omega arith)

targets_count : (targets : List BranchTarget) (set : List Pair) (group : ℕ) → length (island_targets targets set group) ≡ count_in group set
targets_count targets set group =
    length-map (filter (λ (pair : Pair). pair.group == group) set) (λ (pair : Pair). target_at targets pair.target) ∙ length-filter (λ (pair : Pair). pair.group == group) set

one_more : (unit : ℕ) (set : List Pair) (group : ℕ) → bytes_before unit set (group + 1) ≡ bytes_before unit set group + islands_bytes unit (count_in group set)
unfolding bytes_before
one_more unit set group = ap (bytes_before unit set) (add-one group)

none_bytes : (unit : ℕ) (limit : Option AtomKey) (areas : List IslandArea) → ((area : IslandArea) → In area areas → counts limit area ≡ false) → areas_bytes unit limit areas ≡ 0
unfolding areas_bytes
none_bytes unit limit [] none = refl
none_bytes unit limit (area ∷ areas) none = let rest = none_bytes unit limit areas (λ a h. none a (inr h)) in rw (none area (inl refl)) (omega (arith, rest))

none_count : {X : Type 0} (p : X → Bool) (xs : List X) → ((x : X) → In x xs → p x ≡ false) → count_by p xs ≡ 0
none_count p [] none = refl
none_count p (x ∷ xs) none = let rest = none_count p xs (λ y h. none y (inr h)) in count_cons p x xs ∙ rw (none x (inl refl)) (omega (arith, rest))

later_no : (last key : AtomKey) (lasts : List AtomKey) → AllByRecursion (λ (y : AtomKey). compare_keys last y ≡ Less) lasts → is_lt (compare_keys last key) ≡ false → (other : AtomKey) → In other lasts → is_lt (compare_keys other key) ≡ false
later_no last key lasts all away other h = elim (cases_Bool (is_lt (compare_keys other key))) [
  | inl less ↦ absurd (false≢true (sym away ∙ ap is_lt (compare_keys_total.trans last other key (all_in (λ (y : AtomKey). compare_keys last y ≡ Less) lasts other all h) (is_less (compare_keys other key) less))))
  | inr fine ↦ fine
]

no_more : (unit : ℕ) (set : List Pair) (group : ℕ) → 0 + bytes_before unit set group ≡ bytes_before unit set (group + 0)
no_more unit set group =
    let none : group + 0 ≡ group = omega arith in
    let same : bytes_before unit set (group + 0) ≡ bytes_before unit set group = ap (bytes_before unit set) none in
    omega (arith, same)

-- those before an atom
pub bytes_to : (unit : ℕ) (targets : List BranchTarget) (set : List Pair) (group : ℕ) (lasts : List AtomKey) (key : AtomKey) → IsStrictlySortedBy compare_keys lasts
    → areas_bytes unit (Some key) (areas_from targets set group lasts) + bytes_before unit set group ≡ bytes_before unit set (group + groups_before lasts key)
unfolding areas_from areas_bytes IsStrictlySortedBy
bytes_to unit targets set group [] key rises = no_more unit set group
bytes_to unit targets set group (last ∷ lasts) key rises = by (cases_Bool (is_lt (compare_keys last key))) (bytes_to unit targets set (group + 1) lasts key rises.1)
  where
    area : IslandArea
    area = record { last = last; targets = island_targets targets set group }

    split : areas_bytes unit (Some key) (areas_from targets set group (last ∷ lasts)) ≡ here_bytes unit (Some key) area + areas_bytes unit (Some key) (areas_from targets set (group + 1) lasts)
    split = filled_bytes unit (Some key) area (areas_from targets set (group + 1) lasts)

    by : (is_lt (compare_keys last key) ≡ true) ⊎ (is_lt (compare_keys last key) ≡ false) → areas_bytes unit (Some key) (areas_from targets set (group + 1) lasts) + bytes_before unit set (group + 1) ≡ bytes_before unit set ((group + 1) + groups_before lasts key)
        → areas_bytes unit (Some key) (areas_from targets set group (last ∷ lasts)) + bytes_before unit set group ≡ bytes_before unit set (group + groups_before (last ∷ lasts) key)
    by (inl less) rest =
        let own : here_bytes unit (Some key) area ≡ islands_bytes unit (count_in group set) = rw less (ap (islands_bytes unit) (targets_count targets set group)) in
        let many : groups_before (last ∷ lasts) key ≡ 1 + groups_before lasts key = count_cons (λ (l : AtomKey). is_lt (compare_keys l key)) last lasts ∙ rw less refl in
        let same : bytes_before unit set ((group + 1) + groups_before lasts key) ≡ bytes_before unit set (group + groups_before (last ∷ lasts) key) = ap (bytes_before unit set) (omega (arith, many)) in
        omega (arith, split, own, rest, same, one_more unit set group)
    by (inr away) rest =
        let none = later_no last key lasts rises.0 away in
        let own : here_bytes unit (Some key) area ≡ 0 = rw away refl in
        let no_bytes : areas_bytes unit (Some key) (areas_from targets set (group + 1) lasts) ≡ 0 = none_bytes unit (Some key) (areas_from targets set (group + 1) lasts) (λ a h. none a.last (area_last targets set (group + 1) lasts a h)) in
        let later_none = none_count (λ (l : AtomKey). is_lt (compare_keys l key)) lasts none in
        let many : groups_before (last ∷ lasts) key ≡ 0 = count_cons (λ (l : AtomKey). is_lt (compare_keys l key)) last lasts ∙ rw away (omega (arith, later_none)) in
        let same : bytes_before unit set group ≡ bytes_before unit set (group + groups_before (last ∷ lasts) key) = ap (bytes_before unit set) (omega (arith, many)) in
        omega (arith, split, own, no_bytes, same)

-- all of them
pub bytes_all : (unit : ℕ) (targets : List BranchTarget) (set : List Pair) (group : ℕ) (lasts : List AtomKey) → areas_bytes unit None (areas_from targets set group lasts) + bytes_before unit set group ≡ bytes_before unit set (group + length lasts)
unfolding areas_from areas_bytes
bytes_all unit targets set group [] = no_more unit set group
bytes_all unit targets set group (last ∷ lasts) =
    let area : IslandArea = record { last = last; targets = island_targets targets set group } in
    let rest = bytes_all unit targets set (group + 1) lasts in
    let split = filled_bytes unit None area (areas_from targets set (group + 1) lasts) in
    let own : here_bytes unit None area ≡ islands_bytes unit (count_in group set) = ap (islands_bytes unit) (targets_count targets set group) in
    let same : bytes_before unit set ((group + 1) + length lasts) ≡ bytes_before unit set (group + length (last ∷ lasts)) = ap (bytes_before unit set) (omega arith) in
    omega (arith, split, own, rest, same, one_more unit set group)
