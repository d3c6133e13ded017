-- References of which each run whose atoms never rise is put in the order of its atoms.
use Rattle.std.proofs.Common.{◌≡◌, ℕ, ◌+◌, ◌-◌, ◌<◌, ◌≤◌, inl, inr, List, [], ◌++◌, length, take, drop, get_or, refl, sym, ap, ◌∙◌, subst, arith, length-take}
use Rattle.std.specs.Prelude.{IsPermutation}
use Rattle.std.specs.List.{filter}
use Rattle.std.specs.List.Sorted.{IsSorted}
use Rattle.std.proofs.lemmas.Bool.{cases_eq}
use Rattle.std.proofs.lemmas.List.{get_or-drop, get_or-take, take_all}
use Rattle.std.proofs.Math.Seq.{take-add}
use Rattle.std.proofs.lemmas.List.Elements.{filter-append}
use Rattle.std.proofs.lemmas.List.Sorted.{IsPermutation-append_comm, IsPermutation-append_left, IsPermutation-refl, IsPermutation-trans}
use Rattle.liveness.specs.declared.order.Spot.{Spot}
use Rattle.liveness.specs.inner.Spots.{compare_spots, is_of, place}
use Rattle.liveness.specs.inner.Turned.{AreShuffled, AreTurned, FallsTo, IsFalling, IsWithShuffled}

-- ---- one list behind another

all_of_both : (a b x y : List Spot) → IsPermutation a x → IsPermutation b y → IsPermutation (a ++ b) (x ++ y)
all_of_both a b x y front back =
    IsPermutation-trans (a ++ b) (x ++ b) (x ++ y) (IsPermutation-append_left b a x front)
    (IsPermutation-trans (x ++ b) (b ++ x) (x ++ y) (IsPermutation-append_comm x b)
    (IsPermutation-trans (b ++ x) (y ++ x) (x ++ y) (IsPermutation-append_left x b y back) (IsPermutation-append_comm y x)))

shuffled_both : (a b x y : List Spot) → AreShuffled a x → AreShuffled b y → AreShuffled (a ++ b) (x ++ y)
shuffled_both a b x y front back = record {
  all = all_of_both a b x y front.all back.all;
  listed = λ section offset.
      filter-append (is_of section offset) x y
      ∙ ap (λ ys. ys ++ filter (is_of section offset) y) (front.listed section offset)
      ∙ ap (λ ys. filter (is_of section offset) a ++ ys) (back.listed section offset)
      ∙ sym (filter-append (is_of section offset) a b);
}

-- ---- run by run

-- The references before a place are put in order run by run, and from there to another place their atoms never rise.
pub record AreRuns (spots : List Spot) (at start : ℕ) (new : List Spot) : Type 0 where
  pub low : start ≤ at
  pub falls : (k : ℕ) (d : Spot) → start ≤ k → k + 1 ≤ at → place (get_or spots (k + 1) d) ≤ place (get_or spots k d)
  pub all : at ≡ length spots → start ≡ at
  pub shuffled : AreShuffled (take start spots) new

pub runs_start : (spots new : List Spot) → new ≡ [] → AreRuns spots 0 0 new
runs_start spots new none = record {
  low = omega arith;
  falls = λ k d from to. absurd (omega (arith, to));
  all = λ e. refl;
  shuffled = rw none (record { all = IsPermutation-refl []; listed = λ section offset. refl });
}

run_falls : (spots new : List Spot) (at start : ℕ) → AreRuns spots at start new → IsFalling (take (at + 1 - start) (drop start spots))
run_falls spots new at start are k d low =
    let few : k + 1 < at + 1 - start = omega (arith, low, length-take (at + 1 - start) (drop start spots)) in
    let here : place (get_or spots (start + k + 1) d) ≤ place (get_or spots (start + k) d) = are.falls (start + k) d (omega arith) (omega (arith, few)) in
    let next : start + (k + 1) ≡ start + k + 1 = omega arith in
    rw (get_or-take (at + 1 - start) (drop start spots) (k + 1) d few, get_or-take (at + 1 - start) (drop start spots) k d (omega (arith, few)), get_or-drop start spots (k + 1) d, get_or-drop start spots k d, next) here

pub run_ends : (spots new more : List Spot) (at start end : ℕ) → AreRuns spots at start new → end ≡ at + 1 → IsWithShuffled new (take (end - start) (drop start spots)) more → AreRuns spots (at + 1) end more
run_ends spots new more at start end are e with_run =
    let low : start ≤ at = are.low in
    let long : start + (end - start) ≡ end = omega (arith, low, e) in
    let run : List Spot = take (end - start) (drop start spots) in
    record {
      low = omega (arith, e);
      falls = λ k d from to. absurd (omega (arith, from, to, e));
      all = λ is. e;
      shuffled =
          subst (λ ys. AreShuffled (take end spots) ys) (sym with_run.behind)
          (subst (λ ys. AreShuffled ys (new ++ with_run.part)) (sym (take-add start (end - start) spots) ∙ ap (λ n. take n spots) long)
          (shuffled_both (take start spots) run new with_run.part are.shuffled with_run.shuffled));
    }

pub run_goes_on : (spots new : List Spot) (at start : ℕ) → AreRuns spots at start new → FallsTo spots (at + 1) → (at + 1 ≡ length spots → ⊥) → AreRuns spots (at + 1) start new
run_goes_on spots new at start are falls inside = record {
  low = let low : start ≤ at = are.low in omega (arith, low);
  falls = λ k d from to. elim (cases_eq k at) [
    | inl here ↦ subst (λ n. place (get_or spots n d) ≤ place (get_or spots k d)) (ap (λ n. n + 1) (sym here)) (falls k d (ap (λ n. n + 1) here))
    | inr before ↦ are.falls k d from (omega (arith, to, before))
  ];
  all = λ e. absurd (inside e);
  shuffled = are.shuffled;
}

pub runs_end : (spots new : List Spot) (at start : ℕ) → AreRuns spots at start new → at ≡ length spots → AreShuffled spots new
runs_end spots new at start are e =
    subst (λ ys. AreShuffled ys new) (ap (λ n. take n spots) (are.all e ∙ e) ∙ take_all (length spots) spots (omega arith)) are.shuffled

-- ---- sorted too

pub turned_sorted : (old new : List Spot) → AreShuffled old new → IsSorted compare_spots new → AreTurned old new
turned_sorted old new are sorted = record { all = are.all; sorted = sorted; listed = are.listed }

pub turned_again : (old mid new : List Spot) → AreShuffled old mid → IsPermutation mid new → IsSorted compare_spots new → ((section offset : ℕ) → filter (is_of section offset) new ≡ filter (is_of section offset) mid) → AreTurned old new
turned_again old mid new are all sorted listed = record {
  all = IsPermutation-trans old mid new are.all all;
  sorted = sorted;
  listed = λ section offset. listed section offset ∙ are.listed section offset;
}

pub ruleset turns_runs = (runs_start, runs_end)

pub ruleset orders = (turned_sorted, turned_again)
