-- How the ways of branches and the areas of groups are listed.
use Rattle.std.proofs.Common.{◌≡◌, ℕ, ◌+◌, ◌<◌, ◌≤◌, ◌⊎◌, ◌==◌, ◌++◌, if◌then◌else◌, Bool, true, false, List, [], ◌∷◌, length, get_or, take, drop, All, Option, None, refl, sym, ap, subst, ◌∙◌, inl, inr, arith, append-nil, append_assoc, length-append}
use Rattle.std.specs.List.{filter}
use Rattle.std.specs.List.Sorted.{IsStrictlySortedBy}
use Rattle.std.specs.Ordering.{on}
use Rattle.std.specs.declared.cmp.Ordering.TheVariants.{Less}
use Rattle.std.proofs.Math.ListN.{get_or-append}
use Rattle.std.proofs.Math.Seq.{get_or-append_seam}
use Rattle.std.proofs.lemmas.Bool.{cases_Bool, cases_lt, eqb-true}
use Rattle.std.proofs.lemmas.List.{drop_all, get_or-take, get_or_default, length-take}
use Rattle.std.proofs.lemmas.List.Elements.{All-filter}
use Rattle.list_lemmas.proofs.Members.{In, all_from_in, all_in}
use Rattle.list_lemmas.proofs.Places.{from_here}
use Rattle.mo_types.specs.Keys.{compare_keys}
use Rattle.mo_types.specs.declared.key.AtomKey.{AtomKey}
use Rattle.sect_place.specs.declared.island.BranchTarget.{BranchTarget}
use Rattle.sect_place.specs.declared.island.IslandArea.{IslandArea}
use Rattle.island_core.specs.declared.row.Pair.{Pair}
use Rattle.island_core.specs.declared.row.Row.{Row}
use Rattle.islands.specs.Plan.{AreWays, IsWay, areas_from, filled, island_targets, row_at}

-- ---- ways

ways_each : (far : List Pair) (rows : List Row) (i : ℕ) (d : Row) (ways : List (Option ℕ)) (way : Option ℕ) → AreWays far (take i rows) ways → i < length rows → IsWay far (get_or rows i d) way
    → (k : ℕ) → k < i + 1 → IsWay far (row_at (take (i + 1) rows) k) (get_or (ways ++ way ∷ []) k None)
ways_each far rows i d ways way are within is k low = by (cases_lt k i)
  where
    default : Row
    default = row_at [] 0

    many : length ways ≡ i
    many = are.all ∙ (length-take i rows ∙ omega (arith, within))

    by : (k < i) ⊎ (i ≤ k) → IsWay far (row_at (take (i + 1) rows) k) (get_or (ways ++ way ∷ []) k None)
    by (inl less) =
        let old : IsWay far (row_at (take i rows) k) (get_or ways k None) = are.each k (omega (arith, less, length-take i rows, within)) in
        let here : row_at (take (i + 1) rows) k ≡ row_at (take i rows) k = get_or-take (i + 1) rows k default low ∙ sym (get_or-take i rows k default less) in
        subst (λ (w : Option ℕ). IsWay far (row_at (take (i + 1) rows) k) w) (sym (get_or-append ways (way ∷ []) None k (omega (arith, many, less))))
        (subst (λ (row : Row). IsWay far row (get_or ways k None)) (sym here) old)
    by (inr up) =
        let last : length ways ≡ k = omega (arith, many, low, up) in
        let at : i ≡ k = omega (arith, low, up) in
        let here : row_at (take (i + 1) rows) k ≡ get_or rows i d = get_or-take (i + 1) rows k default low ∙ (ap (λ (n : ℕ). get_or rows n default) (sym at) ∙ get_or_default rows i default d within) in
        let new : get_or (ways ++ way ∷ []) k None ≡ way = subst (λ (n : ℕ). get_or (ways ++ way ∷ []) n None ≡ way) last (get_or-append_seam ways way [] None) in
        subst (λ (w : Option ℕ). IsWay far (row_at (take (i + 1) rows) k) w) (sym new) (subst (λ (row : Row). IsWay far row way) (sym here) is)

pub ways_more : (far : List Pair) (rows : List Row) (i : ℕ) (d : Row) (ways new : List (Option ℕ)) (way : Option ℕ) → AreWays far (take i rows) ways → i < length rows → IsWay far (get_or rows i d) way → new ≡ ways ++ way ∷ [] → AreWays far (take (i + 1) rows) new
ways_more far rows i d ways new way are within is grown =
    subst (AreWays far (take (i + 1) rows)) (sym grown) (record {
      all = length-append ways (way ∷ []) ∙ omega (arith, are.all, length-take i rows, length-take (i + 1) rows, within);
      each = λ k low. ways_each far rows i d ways way are within is k (omega (arith, low, length-take (i + 1) rows));
    })

-- ---- targets of pairs

pub pair_within : (far pairs : List Pair) (group many i : ℕ) (d : Pair) → All (λ (pair : Pair). pair.target < many) far → pairs ≡ filter (λ (pair : Pair). pair.group == group) far → i < length pairs → (get_or pairs i d).target < many
pair_within far pairs group many i d low same within =
    subst (λ (ps : List Pair). All (λ (pair : Pair). pair.target < many) ps) (sym same) (All-filter (λ (pair : Pair). pair.group == group) (λ (pair : Pair). pair.target < many) far low) i d within

-- ---- areas

areas_next : (targets : List BranchTarget) (far : List Pair) (group : ℕ) (lasts : List AtomKey) (d : AtomKey) → group < length lasts
    → areas_from targets far group (drop group lasts) ≡ filled (record { last = get_or lasts group d; targets = island_targets targets far group }) ++ areas_from targets far (group + 1) (drop (group + 1) lasts)
unfolding areas_from
areas_next targets far group lasts d within =
    let key = get_or lasts group d in
    ap (areas_from targets far group) (from_here lasts group key within (get_or_default lasts group d key within))

none_from : (targets : List BranchTarget) (far : List Pair) (group : ℕ) (lasts : List AtomKey) → lasts ≡ [] → areas_from targets far group lasts ≡ []
unfolding areas_from
none_from targets far group lasts none = rw none refl

some_filled : (area : IslandArea) → length area.targets ≡ 0 → filled area ≡ []
some_filled area none = rw none refl

not_zero : (n : ℕ) → (n ≡ 0 → ⊥) → (n == 0) ≡ false
not_zero n some = elim (cases_Bool (n == 0)) [ inl e ↦ absurd (some (eqb-true n 0 e)) | inr e ↦ e ]

pub areas_more : (targets : List BranchTarget) (far : List Pair) (group : ℕ) (lasts : List AtomKey) (d : AtomKey) (area : IslandArea) (now new all : List IslandArea) → now ++ areas_from targets far group (drop group lasts) ≡ all → group < length lasts
    → area.last ≡ get_or lasts group d → area.targets ≡ island_targets targets far group → (length area.targets ≡ 0 → ⊥) → new ≡ now ++ area ∷ [] → new ++ areas_from targets far (group + 1) (drop (group + 1) lasts) ≡ all
areas_more targets far group lasts d area now new all so within last goes some grown =
    let rest = areas_from targets far (group + 1) (drop (group + 1) lasts) in
    let same : (let a : IslandArea = record { last = get_or lasts group d; targets = island_targets targets far group } in a) ≡ area = rw (sym last, sym goes) refl in
    let here : filled area ≡ area ∷ [] = rw (not_zero (length area.targets) some) refl in
    let next = subst (λ (xs : List IslandArea). now ++ xs ≡ all) (areas_next targets far group lasts d within) so in
    ap (λ (xs : List IslandArea). xs ++ rest) grown
    ∙ (append_assoc now (area ∷ []) rest ∙ (ap (λ (xs : List IslandArea). now ++ (xs ++ rest)) (sym (ap filled same ∙ here)) ∙ next))

pub areas_pass : (targets : List BranchTarget) (far : List Pair) (group : ℕ) (lasts : List AtomKey) (d : AtomKey) (now all : List IslandArea) → now ++ areas_from targets far group (drop group lasts) ≡ all → group < length lasts
    → length (island_targets targets far group) ≡ 0 → now ++ areas_from targets far (group + 1) (drop (group + 1) lasts) ≡ all
areas_pass targets far group lasts d now all so within none =
    let rest = areas_from targets far (group + 1) (drop (group + 1) lasts) in
    let next = subst (λ (xs : List IslandArea). now ++ xs ≡ all) (areas_next targets far group lasts d within) so in
    ap (λ (xs : List IslandArea). now ++ (xs ++ rest)) (sym (some_filled (record { last = get_or lasts group d; targets = island_targets targets far group }) none)) ∙ next

pub areas_end : (targets : List BranchTarget) (far : List Pair) (group : ℕ) (lasts : List AtomKey) (now all : List IslandArea) → now ++ areas_from targets far group (drop group lasts) ≡ all → length lasts ≤ group → now ≡ all
areas_end targets far group lasts now all so past = sym (append-nil now) ∙ (ap (λ (xs : List IslandArea). now ++ xs) (sym (none_from targets far group (drop group lasts) (drop_all group lasts past))) ∙ so)

-- each area is behind one of the last atoms
pub area_last : (targets : List BranchTarget) (far : List Pair) (group : ℕ) (lasts : List AtomKey) (area : IslandArea) → In area (areas_from targets far group lasts) → In area.last lasts
unfolding areas_from
area_last targets far group [] area h = absurd h
area_last targets far group (last ∷ lasts) area h = by (length (island_targets targets far group) == 0) h (area_last targets far (group + 1) lasts area)
  where
    here : IslandArea
    here = record { last = last; targets = island_targets targets far group }

    first : (here ≡ area) ⊎ In area (areas_from targets far (group + 1) lasts) → (In area (areas_from targets far (group + 1) lasts) → In area.last lasts) → In area.last (last ∷ lasts)
    first (inl e) rest = inl (ap (λ (a : IslandArea). a.last) e)
    first (inr h) rest = inr (rest h)

    by : (b : Bool) → In area ((if b then [] else here ∷ []) ++ areas_from targets far (group + 1) lasts) → (In area (areas_from targets far (group + 1) lasts) → In area.last lasts) → In area.last (last ∷ lasts)
    by true h rest = inr (rest h)
    by false h rest = first h rest

pub areas_rise : (targets : List BranchTarget) (far : List Pair) (group : ℕ) (lasts : List AtomKey) → IsStrictlySortedBy compare_keys lasts → IsStrictlySortedBy (on (λ (area : IslandArea). area.last) compare_keys) (areas_from targets far group lasts)
unfolding areas_from IsStrictlySortedBy
areas_rise targets far group [] rises = tt
areas_rise targets far group (last ∷ lasts) rises = by (length (island_targets targets far group) == 0) (areas_rise targets far (group + 1) lasts rises.1)
  where
    here : IslandArea
    here = record { last = last; targets = island_targets targets far group }

    by : (b : Bool) → IsStrictlySortedBy (on (λ (area : IslandArea). area.last) compare_keys) (areas_from targets far (group + 1) lasts) → IsStrictlySortedBy (on (λ (area : IslandArea). area.last) compare_keys) ((if b then [] else here ∷ []) ++ areas_from targets far (group + 1) lasts)
    by true rest = rest
    by false rest = (all_from_in (λ (area : IslandArea). compare_keys last area.last ≡ Less) (areas_from targets far (group + 1) lasts) (λ area h. all_in (λ (key : AtomKey). compare_keys last key ≡ Less) lasts area.last rises.0 (area_last targets far (group + 1) lasts area h)), rest)

pub areas_sorted : (targets : List BranchTarget) (far : List Pair) (lasts : List AtomKey) (areas : List IslandArea) → IsStrictlySortedBy compare_keys lasts → areas ≡ areas_from targets far 0 lasts → IsStrictlySortedBy (on (λ (area : IslandArea). area.last) compare_keys) areas
areas_sorted targets far lasts areas rises same = subst (λ (xs : List IslandArea). IsStrictlySortedBy (on (λ (area : IslandArea). area.last) compare_keys) xs) (sym same) (areas_rise targets far 0 lasts rises)
