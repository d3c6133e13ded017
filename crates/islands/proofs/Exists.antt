-- There is a plan of islands.
use Rattle.std.proofs.Common.{◌≡◌, ℕ, zero, suc, ◌+◌, ◌/◌, ◌%◌, ◌^◌, ◌<◌, ◌≤◌, ◌⊎◌, ◌==◌, ◌&&◌, Bool, true, false, not, nat_le, min, List, [], ◌∷◌, length, map, get_or, All, Contains, Option, Some, None, refl, sym, ap, subst, ◌∙◌, inl, inr, arith}
use Rattle.std.proofs.lemmas.Bool.{cases_Bool, cases_lt, false≢true, leb-true}
use Rattle.std.proofs.lemmas.Option.{slice_get-get_or}
use Rattle.list_lemmas.proofs.Members.{In, Contains_from_in}
use Rattle.mo_types.specs.declared.atom.Atom.{Atom}
use Rattle.sect_place.specs.Shifts.{sections_in}
use Rattle.sect_place.specs.declared.island.IslandPlan.{IslandPlan}
use Rattle.sect_place.specs.declared.layout.Layout.{Layout}
use Rattle.sect_place.proofs.Fitting.{unit_least}
use Rattle.island_core.specs.Far.{IsFar, IsInTurn, bytes_before, has, in_reach, in_reach_by, is_grouped, needs, takes}
use Rattle.island_core.specs.declared.row.Pair.{Pair}
use Rattle.island_core.specs.declared.row.Row.{Row}
use Rattle.island_core.specs.declared.row.Scale.{Scale}
use Rattle.island_core.proofs.LawLemmas.{some_set}
use Rattle.island_core.proofs.PairLemmas.{has_from_in, in_from_has}
use Rattle.islands.specs.declared.branch.Branch.{Branch}
use Rattle.islands.specs.Plan.{AreWays, IsInAtoms, IsPlan, IsWay, IsWithoutIslands, areas_from, row_at, scale_of}
use Rattle.islands.specs.Rows.{rows_of}
use Rattle.islands.specs.Text.{extents_of, lasts_of, text_atoms}
use Rattle.islands.proofs.Told.{some_ends, some_pairs, some_targets}
use Rattle.islands.proofs.Whole.{rows_turn}

-- ---- no branch reaches by more than the reach

both : (a b : Bool) → (a && b) ≡ true → (a ≡ true) × (b ≡ true)
both true true e = (refl, refl)
both true false e = cc
both false b e = cc

no_reach : (reach slack f t : ℕ) → reach ≤ slack → in_reach_by reach slack f t ≡ false
no_reach reach slack f t high = elim (cases_Bool (in_reach_by reach slack f t)) [
  | inl e ↦
      let parts = both (nat_le (f + slack + 4) (t + reach) && nat_le (t + slack + 4) (f + reach)) (f % 4 == t % 4) e in
      let ends = both (nat_le (f + slack + 4) (t + reach)) (nat_le (t + slack + 4) (f + reach)) parts.0 in
      absurd (omega (arith, high, leb-true (f + slack + 4) (t + reach) ends.0, leb-true (t + slack + 4) (f + reach) ends.1))
  | inr e ↦ e
]

same_reach : (reach slack f t : ℕ) → in_reach_by reach (min slack reach) f t ≡ in_reach_by reach slack f t
same_reach reach slack f t = elim (cases_lt reach slack) [
  | inl less ↦ no_reach reach (min slack reach) f t (omega (arith, less)) ∙ sym (no_reach reach slack f t (omega (arith, less)))
  | inr low ↦ let same : min slack reach ≡ slack = omega (arith, low) in ap (λ (n : ℕ). in_reach_by reach n f t) same
]

abbrev lowered : Scale → Scale
lowered scale = record { unit = scale.unit; groups = scale.groups; reach = scale.reach; slack = min scale.slack scale.reach }

same_needs : (scale : Scale) (set : List Pair) (row : Row) → needs (lowered scale) set row ≡ needs scale set row
same_needs scale set row =
    ap (λ (b : Bool). takes row.case (not (in_reach scale.reach (row.from + bytes_before scale.unit set row.pair.group) (row.to + bytes_before scale.unit set row.zone))) (not b)) (same_reach scale.reach scale.slack row.from row.to)

far_lowered : (scale : Scale) (rows : List Row) (far : List Pair) → IsFar (lowered scale) rows far → IsFar scale rows far
far_lowered scale rows far is = record {
  closed = λ k d low e. is.closed k d low (same_needs scale far (get_or rows k d) ∙ e);
  least = λ other set closed. is.least other set (λ k d low e. closed k d low (sym (same_needs scale other (get_or rows k d)) ∙ e));
  rises = is.rises;
}

-- ---- each branch has a way

some_way : (far : List Pair) (row : Row) → (way : Option ℕ) × IsWay far row way
some_way far row = by (cases_Bool (is_grouped row.case)) (cases_Bool (has far row.pair))
  where
    by : (is_grouped row.case ≡ true) ⊎ (is_grouped row.case ≡ false) → (has far row.pair ≡ true) ⊎ (has far row.pair ≡ false) → (way : Option ℕ) × IsWay far row way
    by (inr out) there = (None, λ e. absurd (false≢true (sym out ∙ e)))
    by (inl grouped) (inr none) = (None, λ e h. absurd (false≢true (sym none ∙ has_from_in far row.pair (there h))))
      where
        there : Contains far row.pair → In row.pair far
        there h = subst (λ (p : Pair). In p far) h.2 (at far h.0 row.pair h.1)
          where
            at : (xs : List Pair) (k : ℕ) (d : Pair) → k < length xs → In (get_or xs k d) xs
            at [] k d low = absurd (omega (arith, low))
            at (x ∷ xs) zero d low = inl refl
            at (x ∷ xs) (suc k) d low = inr (at xs k d (omega (arith, low)))
    by (inl grouped) (inl there) =
        let at : Contains far row.pair = Contains_from_in far row.pair (in_from_has far row.pair there) in
        (Some at.0, (grouped, slice_get-get_or far at.0 row.pair at.1 ∙ ap Some at.2))

some_ways : (far : List Pair) (rows : List Row) → (ways : List (Option ℕ)) × AreWays far rows ways
some_ways far [] = ([], record { all = refl; each = λ k low. absurd (omega (arith, low)) })
some_ways far (row ∷ rows) =
    let first = some_way far row in
    let rest = some_ways far rows in
    (first.0 ∷ rest.0, record { all = ap suc rest.1.all; each = λ k low. by first.0 rest.0 first.1 rest.1.each k low })
  where
    by : (way : Option ℕ) (ways : List (Option ℕ)) → IsWay far row way → ((k : ℕ) → k < length rows → IsWay far (row_at rows k) (get_or ways k None)) → (k : ℕ) → k < length (row ∷ rows) → IsWay far (row_at (row ∷ rows) k) (get_or (way ∷ ways) k None)
    by way ways is each zero low = is
    by way ways is each (suc k) low = each k (omega (arith, low))

-- ---- the plan

pub some_plan : (kept : List Atom) (layout : Layout) (branches : List Branch) (reach : ℕ) → IsWithoutIslands kept layout → All (IsInAtoms kept) branches → 4 ≤ reach → reach < 2 ^ 64 → (plan : IslandPlan) × IsPlan kept layout branches reach plan
some_plan kept layout branches reach is within low high =
    let ends = some_ends (reach / 2) (extents_of kept layout) in
    let targets = some_targets (map (λ (branch : Branch). branch.target) branches) in
    let lasts = lasts_of (text_atoms kept layout) ends.0 in
    let rows = rows_of layout lasts targets.0 branches in
    let pairs = some_pairs rows in
    let scale = scale_of layout reach (length ends.0) pairs.0 in
    let turns : All IsInTurn rows = rows_turn kept layout lasts targets.0 branches rows is within refl in
    let far = some_set (lowered scale) rows (record { least_unit = let least = unit_least (sections_in layout.sections) in omega (arith, least); most_unit = omega arith; least_reach = low; most_reach = high; slack = omega (arith, high) }) turns in
    let ways = some_ways far.0 rows in (
      record { areas = areas_from targets.0 far.0 0 lasts; ways = ways.0 },
      record {
        ends = ends.0;
        targets = targets.0;
        pairs = pairs.0;
        far = far.0;
        groups = ends.1;
        goes = targets.1;
        taken = pairs.1;
        least = far_lowered scale rows far.0 far.1;
        areas = refl;
        ways = ways.1;
      },
    )
