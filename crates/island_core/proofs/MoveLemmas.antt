-- How far islands move what stands behind groups, and what that leaves out of reach.
use Rattle.std.proofs.Common.{◌≡◌, ℕ, zero, suc, ◌+◌, ◌-◌, ◌*◌, ◌%◌, ◌^◌, ◌<◌, ◌≤◌, ◌⊎◌, ◌==◌, ◌&&◌, Bool, true, false, not, nat_le, List, All, refl, sym, ap, subst, ◌∙◌, inl, inr, arith}
use Rattle.std.specs.List.Sorted.{IsStrictlySortedBy}
use Rattle.std.proofs.lemmas.Bool.{cases_Bool, cases_lt, eq-eqb, eqb-true, le-leb, leb-true}
use Rattle.std.proofs.lemmas.Nat.{pow-add}
use Rattle.std.proofs.lemmas.List.Elements.{All-contains}
use Rattle.list_lemmas.proofs.Members.{Contains_from_in}
use Rattle.sect_place.specs.Places.{islands_bytes}
use Rattle.sect_place.proofs.Fitting.{islands_whole}
use Rattle.sect_place.proofs.Larger.{islands_order}
use Rattle.island_core.specs.Far.{IsInTurn, bytes_before, compare_pairs, count_in, has, in_reach, in_reach_by, needs, takes}
use Rattle.island_core.specs.declared.row.Case.{Case}
use Rattle.island_core.specs.declared.row.Case.TheVariants.{Outside, Away, Plain, Added}
use Rattle.island_core.specs.declared.row.Pair.{Pair}
use Rattle.island_core.specs.declared.row.Row.{Row}
use Rattle.island_core.specs.declared.row.Scale.{Scale}
use Rattle.island_core.proofs.PairLemmas.{count_within, in_from_has}

-- ---- larger sets move more

-- a set whose pairs another one has
pub record IsWithin (set other : List Pair) : Type 0 where
  pub rises : IsStrictlySortedBy compare_pairs set
  pub all : All (λ (pair : Pair). has other pair ≡ true) set

pub within_counts : (set other : List Pair) → IsWithin set other → (group : ℕ) → count_in group set ≤ count_in group other
within_counts set other is group =
    count_within (λ (pair : Pair). pair.group == group) set other is.rises (λ t h. in_from_has other t (All-contains (λ (pair : Pair). has other pair ≡ true) set t is.all (Contains_from_in set t h)))

-- what stands between two places moves no less
between : (unit : ℕ) (set other : List Pair) → IsWithin set other → (low more : ℕ) → bytes_before unit set (low + more) + bytes_before unit other low ≤ bytes_before unit other (low + more) + bytes_before unit set low
unfolding bytes_before
between unit set other is low zero = let e : low + zero ≡ low = omega arith in rw e (omega arith)
between unit set other is low (suc more) =
    let rest = between unit set other is low more in
    let here = islands_order unit (count_in (low + more) set) (count_in (low + more) other) (within_counts set other is (low + more)) in
    let step : low + suc more ≡ suc (low + more) = omega arith in
    rw step (omega (arith, rest, here))

pub moves_apart : (unit : ℕ) (set other : List Pair) → IsWithin set other → (low high : ℕ) → low ≤ high → bytes_before unit set high + bytes_before unit other low ≤ bytes_before unit other high + bytes_before unit set low
moves_apart unit set other is low high up =
    let there : low + (high - low) ≡ high = omega arith in
    subst (λ (n : ℕ). bytes_before unit set n + bytes_before unit other low ≤ bytes_before unit other n + bytes_before unit set low) there (between unit set other is low (high - low))

-- more stands before what is behind
pub moves_up : (unit : ℕ) (set : List Pair) (low more : ℕ) → bytes_before unit set low ≤ bytes_before unit set (low + more)
unfolding bytes_before
moves_up unit set low zero = let e : low + zero ≡ low = omega arith in rw e (omega arith)
moves_up unit set low (suc more) =
    let rest = moves_up unit set low more in
    let step : low + suc more ≡ suc (low + more) = omega arith in
    rw step (omega (arith, rest))

-- ---- areas are whole instructions

power_of_four : (unit : ℕ) → 2 ≤ unit → 2 ^ unit ≡ 2 ^ (unit - 2) * 4
power_of_four unit low = let e : (unit - 2) + 2 ≡ unit = omega arith in subst (λ (n : ℕ). 2 ^ n ≡ 2 ^ (unit - 2) * 4) e (pow-add 2 (unit - 2) 2)

moves_whole : (unit : ℕ) (set : List Pair) → 2 ≤ unit → (group : ℕ) → (count : ℕ) × (bytes_before unit set group ≡ count * 4)
unfolding bytes_before
moves_whole unit set low zero = (0, omega arith)
moves_whole unit set low (suc group) =
    let rest = moves_whole unit set low group in
    let here : (count : ℕ) × (islands_bytes unit (count_in group set) ≡ count * 2 ^ unit) = islands_whole unit (count_in group set) in
    let four = power_of_four unit low in
    (rest.0 + here.0 * 2 ^ (unit - 2), omega (arith, rest.1, here.1, ap (λ (n : ℕ). here.0 * n) four))

moves_up' : (unit : ℕ) (set : List Pair) (low high : ℕ) → low ≤ high → bytes_before unit set low ≤ bytes_before unit set high
moves_up' unit set low high up = let there : low + (high - low) ≡ high = omega arith in subst (λ (n : ℕ). bytes_before unit set low ≤ bytes_before unit set n) there (moves_up unit set low (high - low))

pub moves_rest : (unit : ℕ) (set : List Pair) → 2 ≤ unit → (group at : ℕ) → (at + bytes_before unit set group) % 4 ≡ at % 4
moves_rest unit set low group at = let whole = moves_whole unit set low group in rw whole.1 (omega arith)

-- ---- reach

both : (a b : Bool) → (a && b) ≡ true → (a ≡ true) × (b ≡ true)
both true true e = (refl, refl)
both true false e = cc
both false b e = cc

-- what a branch in reach is
record Reaches (reach f t : ℕ) : Type 0 where
  up : f ≤ t + reach
  down : t + 4 ≤ f + reach
  whole : f % 4 ≡ t % 4

reaches : (reach f t : ℕ) → in_reach reach f t ≡ true → Reaches reach f t
reaches reach f t e =
    let parts = both (nat_le f (t + reach) && nat_le (t + 4) (f + reach)) (f % 4 == t % 4) e in
    let ends = both (nat_le f (t + reach)) (nat_le (t + 4) (f + reach)) parts.0 in
    record { up = leb-true f (t + reach) ends.0; down = leb-true (t + 4) (f + reach) ends.1; whole = eqb-true (f % 4) (t % 4) parts.1 }

from_reaches : (reach f t : ℕ) → Reaches reach f t → in_reach reach f t ≡ true
from_reaches reach f t is = rw (le-leb f (t + reach) is.up, le-leb (t + 4) (f + reach) is.down, eq-eqb (f % 4) (t % 4) is.whole) refl

-- places that are moved apart, or together as much
abbrev Apart : ℕ → ℕ → ℕ → ℕ → Type 0
Apart f t f' t' = ((f ≤ t) × (f' ≤ t') × (t + f' ≤ t' + f)) ⊎ (((t ≤ f) × (t' ≤ f') × (f + t' ≤ f' + t)) ⊎ (f + t' ≡ f' + t))

back : (reach f t f' t' : ℕ) → 4 ≤ reach → f' % 4 ≡ f % 4 → t' % 4 ≡ t % 4 → Apart f t f' t' → Reaches reach f' t' → Reaches reach f t
back reach f t f' t' low p q (inl ahead) is = record { up = omega (arith, ahead.0); down = omega (arith, ahead.2, is.down); whole = sym p ∙ (is.whole ∙ q) }
back reach f t f' t' low p q (inr (inl behind)) is = record { up = omega (arith, behind.2, is.up); down = omega (arith, behind.0); whole = sym p ∙ (is.whole ∙ q) }
back reach f t f' t' low p q (inr (inr even)) is = record { up = omega (arith, even, is.up); down = omega (arith, even, is.down); whole = sym p ∙ (is.whole ∙ q) }

-- what is out of reach stays so where it is moved apart
stays_out : (reach f t f' t' : ℕ) → 4 ≤ reach → f' % 4 ≡ f % 4 → t' % 4 ≡ t % 4 → Apart f t f' t' → not (in_reach reach f t) ≡ true → not (in_reach reach f' t') ≡ true
stays_out reach f t f' t' low p q apart out = by (cases_Bool (in_reach reach f' t'))
  where
    by : (in_reach reach f' t' ≡ true) ⊎ (in_reach reach f' t' ≡ false) → not (in_reach reach f' t') ≡ true
    by (inl there) = let here = from_reaches reach f t (back reach f t f' t' low p q apart (reaches reach f' t' there)) in absurd (clash (in_reach reach f t) here out)
      where
        clash : (b : Bool) → b ≡ true → not b ≡ true → ⊥
        clash true e g = cc
        clash false e g = cc
    by (inr away) = rw away refl

-- a branch that needs an island with a set needs it with a larger one
plain_stays : (scale : Scale) (set other : List Pair) (row : Row) → 2 ≤ scale.unit → 4 ≤ scale.reach → IsWithin set other → (row.pair.group < row.zone → row.from ≤ row.to) × (row.zone < row.pair.group → row.to ≤ row.from)
    → not (in_reach scale.reach (row.from + bytes_before scale.unit set row.pair.group) (row.to + bytes_before scale.unit set row.zone)) ≡ true
    → not (in_reach scale.reach (row.from + bytes_before scale.unit other row.pair.group) (row.to + bytes_before scale.unit other row.zone)) ≡ true
plain_stays scale set other row low least within turn out =
    let group = row.pair.group in
    let zone = row.zone in
    let f = row.from + bytes_before scale.unit set group in
    let t = row.to + bytes_before scale.unit set zone in
    let f' = row.from + bytes_before scale.unit other group in
    let t' = row.to + bytes_before scale.unit other zone in
    stays_out scale.reach f t f' t' least
    (moves_rest scale.unit other low group row.from ∙ sym (moves_rest scale.unit set low group row.from))
    (moves_rest scale.unit other low zone row.to ∙ sym (moves_rest scale.unit set low zone row.to))
    (by (cases_lt group zone) (cases_lt zone group)) out
  where
    by : (row.pair.group < row.zone) ⊎ (row.zone ≤ row.pair.group) → (row.zone < row.pair.group) ⊎ (row.pair.group ≤ row.zone)
        → Apart (row.from + bytes_before scale.unit set row.pair.group) (row.to + bytes_before scale.unit set row.zone) (row.from + bytes_before scale.unit other row.pair.group) (row.to + bytes_before scale.unit other row.zone)
    by (inl ahead) other' =
        let order = turn.0 ahead in
        let more = moves_apart scale.unit set other within row.pair.group row.zone (omega (arith, ahead)) in
        let up = moves_up' scale.unit set row.pair.group row.zone (omega (arith, ahead)) in
        let up' = moves_up' scale.unit other row.pair.group row.zone (omega (arith, ahead)) in
        inl (omega (arith, order, up), omega (arith, order, up'), omega (arith, more))
    by (inr up) (inl behind) =
        let order = turn.1 behind in
        let more = moves_apart scale.unit set other within row.zone row.pair.group (omega (arith, behind)) in
        let up = moves_up' scale.unit set row.zone row.pair.group (omega (arith, behind)) in
        let up' = moves_up' scale.unit other row.zone row.pair.group (omega (arith, behind)) in
        inr (inl (omega (arith, order, up), omega (arith, order, up'), omega (arith, more)))
    by (inr down) (inr up) =
        let same : row.zone ≡ row.pair.group = omega (arith, down, up) in
        inr (inr (rw same (omega arith)))

needs_stays : (scale : Scale) (set other : List Pair) (row : Row) (case : Case) → row.case ≡ case → 2 ≤ scale.unit → 4 ≤ scale.reach → IsWithin set other → IsInTurn row → takes case
    (not (in_reach scale.reach (row.from + bytes_before scale.unit set row.pair.group) (row.to + bytes_before scale.unit set row.zone)))
    (not (in_reach_by scale.reach scale.slack row.from row.to)) ≡ true → takes case
    (not (in_reach scale.reach (row.from + bytes_before scale.unit other row.pair.group) (row.to + bytes_before scale.unit other row.zone)))
    (not (in_reach_by scale.reach scale.slack row.from row.to)) ≡ true
needs_stays scale set other row Outside is low least within turn out = out
needs_stays scale set other row Away is low least within turn out = out
needs_stays scale set other row Plain is low least within turn out = plain_stays scale set other row low least within (turn is) out
needs_stays scale set other row Added is low least within turn out = out

pub needs_more : (scale : Scale) (set other : List Pair) (row : Row) → 2 ≤ scale.unit → 4 ≤ scale.reach → IsWithin set other → IsInTurn row → needs scale set row ≡ true → needs scale other row ≡ true
needs_more scale set other row low least within turn out = needs_stays scale set other row row.case refl low least within turn out
