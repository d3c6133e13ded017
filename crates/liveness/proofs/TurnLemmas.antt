-- Where the atoms of references never rise, the runs of one atom, taken from last to first, are in the order of atoms.
use Rattle.std.proofs.Common.{◌≡◌, ℕ, zero, suc, ◌+◌, ◌-◌, ◌<◌, ◌≤◌, ◌⊎◌, inl, inr, Bool, true, false, cond, All, List, [], ◌∷◌, ◌++◌, length, take, drop, get_or, refl, sym, ap, ◌∙◌, subst, arith, append_assoc, append-nil, not, length-append, length-take, length-drop}
use Rattle.std.specs.Prelude.{IsPermutation, IsTrue}
use Rattle.std.specs.List.{IsAllAdjacentAnswer, filter}
use Rattle.std.specs.List.Sorted.{IsNonDecreasingBy, IsSorted}
use Rattle.std.specs.Cmp.{nat_cmp_is}
use Rattle.std.specs.Ordering.{is_lt, nat_cmp}
use Rattle.std.specs.declared.cmp.Ordering.TheVariants.{Less, Equal, Greater}
use Rattle.std.proofs.lemmas.Bool.{cases_eq, cases_lt, false≢true, ne_eqb}
use Rattle.std.proofs.lemmas.List.{get_or_append_left, get_or-append_right, get_or-drop, get_or-take, take-append-drop}
use Rattle.std.proofs.Math.Seq.{drop-nil}
use Rattle.std.proofs.lemmas.List.Elements.{filter-append}
use Rattle.std.proofs.lemmas.List.Sorted.{All-permutation, IsPermutation-append_comm, IsPermutation-append_left, IsPermutation-refl, IsPermutation-trans}
use Rattle.liveness.specs.declared.order.Spot.{Spot}
use Rattle.liveness.specs.Order.{place_of}
use Rattle.liveness.specs.inner.Spots.{compare_spots, is_of, place}
use Rattle.liveness.proofs.RunLemmas.{same_element}
use Rattle.liveness.specs.inner.Turned.{AreTurned, Begins, GoesOn, IsFalling, IsWithShuffled}

-- ---- by place

not_less : (p q : ℕ) → q ≤ p → is_lt (nat_cmp p q) ≡ false
not_less p q up = elim (cases_eq p q) [
  | inl e ↦ ap is_lt (sym (nat_cmp_is p q Equal e))
  | inr other ↦ let more : q < p = omega (arith, up, other) in ap is_lt (sym (nat_cmp_is p q Greater more))
]

pub sorted_from_rising : (spots : List Spot) → IsNonDecreasingBy place spots → IsSorted compare_spots spots
sorted_from_rising spots rises k d low high = not_less (place (get_or spots (k + 1) d)) (place (get_or spots k d)) (rises k (k + 1) d (omega arith) high)

-- atoms that never rise are nowhere behind earlier ones
far : (spots : List Spot) → IsFalling spots → (i m : ℕ) (d : Spot) → i + m < length spots → place (get_or spots (i + m) d) ≤ place (get_or spots i d)
far spots falls i zero d low = let e : i + 0 ≡ i = omega arith in rw e (omega arith)
far spots falls i (suc m) d low =
    let e : i + suc m ≡ i + m + 1 = omega arith in
    let here : place (get_or spots (i + m + 1) d) ≤ place (get_or spots (i + m) d) = falls (i + m) d (omega (arith, low)) in
    let before : place (get_or spots (i + m) d) ≤ place (get_or spots i d) = far spots falls i m d (omega (arith, low)) in
    rw e (omega (arith, here, before))

far_to : (spots : List Spot) → IsFalling spots → (i j : ℕ) (d : Spot) → i ≤ j → j < length spots → place (get_or spots j d) ≤ place (get_or spots i d)
far_to spots falls i j d up low =
    let e : j ≡ i + (j - i) = omega (arith, up) in
    let under : i + (j - i) < length spots = omega (arith, up, low) in
    rw e (far spots falls i (j - i) d under)

-- ---- a run behind references of earlier atoms

rises_with : (xs run : List Spot) (at : ℕ) → IsNonDecreasingBy place xs → All (λ x. place x ≤ at) xs → All (λ x. place x ≡ at) run → IsNonDecreasingBy place (xs ++ run)
rises_with xs run at rises low same i j d up under = elim (cases_lt j (length xs)) [
  | inl first ↦
      rw (get_or_append_left xs run d i (omega (arith, up, first)), get_or_append_left xs run d j first) (rises i j d up first)
  | inr behind ↦
      let long : j - length xs < length run = omega (arith, under, behind, length-append xs run) in
      let second : place (get_or (xs ++ run) j d) ≡ at = ap place (get_or-append_right xs run (length xs) j d refl behind) ∙ same (j - length xs) d long in
      elim (cases_lt i (length xs)) [
        | inl before ↦
            let one : place (get_or (xs ++ run) i d) ≤ at = rw (get_or_append_left xs run d i before) (low i d before) in
            omega (arith, one, second)
        | inr after ↦
            let one : place (get_or (xs ++ run) i d) ≡ at = ap place (get_or-append_right xs run (length xs) i d refl after) ∙ same (i - length xs) d (omega (arith, long, up, after, behind)) in
            omega (arith, one, second)
      ]
]

filter_none : (test : Spot → Bool) (xs : List Spot) → All (λ x. test x ≡ false) xs → filter test xs ≡ []
filter_none test [] none = refl
filter_none test (x ∷ xs) none =
    ap (λ b. cond b (x ∷ filter test xs) (filter test xs)) (none 0 x (omega arith))
    ∙ filter_none test xs (λ k d low. none (suc k) d (omega (arith, low)))

-- those of each atom, where a run is moved behind others
moved : (new run back : List Spot) (at section offset : ℕ) → filter (is_of section offset) new ≡ filter (is_of section offset) back → All (λ x. place x < at) back → All (λ x. place x ≡ at) run → filter (is_of section offset) (new ++ run) ≡ filter (is_of section offset) (run ++ back)
moved new run back at section offset listed low same =
    filter-append (is_of section offset) new run
    ∙ ap (λ ys. ys ++ filter (is_of section offset) run) listed
    ∙ by (cases_eq at (place_of section offset))
    ∙ sym (filter-append (is_of section offset) run back)
  where
    by : (at ≡ place_of section offset) ⊎ (at ≡ place_of section offset → ⊥) → filter (is_of section offset) back ++ filter (is_of section offset) run ≡ filter (is_of section offset) run ++ filter (is_of section offset) back
    by (inl e) =
        let none : filter (is_of section offset) back ≡ [] = filter_none (is_of section offset) back (λ k d l. ne_eqb (place (get_or back k d)) (place_of section offset) (λ f. absurd (let less : place (get_or back k d) < at = low k d l in omega (arith, less, e, f)))) in
        ap (λ ys. ys ++ filter (is_of section offset) run) none ∙ sym (append-nil (filter (is_of section offset) run)) ∙ ap (λ ys. filter (is_of section offset) run ++ ys) (sym none)
    by (inr other) =
        let none : filter (is_of section offset) run ≡ [] = filter_none (is_of section offset) run (λ k d l. ne_eqb (place (get_or run k d)) (place_of section offset) (λ f. other (sym (same k d l) ∙ f))) in
        ap (λ ys. filter (is_of section offset) back ++ ys) none ∙ append-nil (filter (is_of section offset) back) ∙ ap (λ ys. ys ++ filter (is_of section offset) back) (sym none)

-- references by their atoms, and those of one atom in the same order
pub record AreRising (old new : List Spot) : Type 0 where
  pub all : IsPermutation old new
  pub rises : IsNonDecreasingBy place new
  pub listed : (section offset : ℕ) → filter (is_of section offset) new ≡ filter (is_of section offset) old

with_run : (new run back : List Spot) (at : ℕ) → AreRising back new → All (λ x. place x < at) back → All (λ x. place x ≡ at) run → AreRising (run ++ back) (new ++ run)
with_run new run back at are low same = record {
  all = IsPermutation-trans (run ++ back) (back ++ run) (new ++ run) (IsPermutation-append_comm run back) (IsPermutation-append_left run back new are.all);
  rises = rises_with new run at are.rises
      (All-permutation (λ x. place x ≤ at) back new are.all (λ k d l. let less : place (get_or back k d) < at = low k d l in omega (arith, less))) same;
  listed = λ section offset. moved new run back at section offset (are.listed section offset) low same;
}

-- ---- what neighbours tell

tested : (b : Bool) → true ≡ not b → b ≡ false
tested true e = cc
tested false e = refl

pub rising_of : (spots : List Spot) (r : Bool) → IsAllAdjacentAnswer (λ x y b. b ≡ not (is_lt (compare_spots y x))) spots r → IsTrue r → IsSorted compare_spots spots
rising_of spots true h holds k d low high = tested (is_lt (compare_spots (get_or spots (k + 1) d) (get_or spots k d))) (h k d high)
rising_of spots false h holds k d low high = absurd (false≢true holds)

pub at_least : (p q : ℕ) → is_lt (nat_cmp p q) ≡ false → q ≤ p
at_least p q e = elim (cases_lt p q) [
  | inl less ↦ absurd (false≢true (sym e ∙ ap is_lt (sym (nat_cmp_is p q Less less))))
  | inr up ↦ up
]

-- ---- run by run, from the last one on

-- The references from a place on are put in order, and those before it down to another place have one atom.
pub record IsTurning (spots : List Spot) (start end : ℕ) (new : List Spot) : Type 0 where
  pub low : start ≤ end
  pub high : end ≤ length spots
  pub last : start ≡ 0 → end ≡ 0
  pub run : (k : ℕ) (d : Spot) → start ≤ k + 1 → k + 1 < end → place (get_or spots k d) ≡ place (get_or spots (k + 1) d)
  pub edge : end < length spots → Begins spots end
  pub are : AreRising (drop end spots) new

dropped : (spots : List Spot) → drop (length spots) spots ≡ []
dropped [] = refl
dropped (x ∷ xs) = dropped xs

rising_none : AreRising [] []
rising_none = record { all = IsPermutation-refl []; rises = λ i j d up low. absurd (omega (arith, low)); listed = λ section offset. refl }

pub turning_start : (spots new : List Spot) (start end : ℕ) → start ≡ length spots → end ≡ length spots → new ≡ [] → IsTurning spots start end new
turning_start spots new start end a b none = record {
  low = omega (arith, a, b);
  high = omega (arith, b);
  last = λ e. omega (arith, a, b, e);
  run = λ k d up under. absurd (omega (arith, up, under, a, b));
  edge = λ l. absurd (omega (arith, l, b));
  are = rw (b, none, dropped spots) rising_none;
}

pub turning_goes_on : (spots new : List Spot) (start end next to : ℕ) → IsTurning spots start end new → next + 1 ≡ start → to ≡ next → GoesOn spots next → IsTurning spots to end new
turning_goes_on spots new start end next to turning e eq on = record {
  low = let l : start ≤ end = turning.low in omega (arith, e, l, eq);
  high = turning.high;
  last = λ zero. absurd (let behind : 0 < next = on.behind in omega (arith, zero, behind, eq));
  run = λ k d up under. elim (cases_lt (k + 1) start) [
    | inl before ↦ let is : k + 1 ≡ next = omega (arith, before, e, up, eq) in on.same k d is ∙ ap (λ n. place (get_or spots n d)) (sym is)
    | inr behind ↦ turning.run k d behind under
  ];
  edge = turning.edge;
  are = turning.are;
}

-- references of one atom, from a place on
run_far : (spots : List Spot) (start end : ℕ) → ((k : ℕ) (d : Spot) → start ≤ k → k + 1 < end → place (get_or spots k d) ≡ place (get_or spots (k + 1) d)) → (m : ℕ) (d : Spot) → start + m < end → place (get_or spots (start + m) d) ≡ place (get_or spots start d)
run_far spots start end same zero d low = let e : start + 0 ≡ start = omega arith in ap (λ n. place (get_or spots n d)) e
run_far spots start end same (suc m) d low =
    let e : start + suc m ≡ start + m + 1 = omega arith in
    ap (λ n. place (get_or spots n d)) e
    ∙ sym (same (start + m) d (omega arith) (omega (arith, low)))
    ∙ run_far spots start end same m d (omega (arith, low))

pub some_spot : (spots : List Spot) (n : ℕ) → n < length spots → Spot
some_spot [] n l = absurd (omega (arith, l))
some_spot (s ∷ ss) n l = s

drop_drop : (spots : List Spot) (a b : ℕ) → drop a (drop b spots) ≡ drop (b + a) spots
drop_drop spots a zero = let e : 0 + a ≡ a = omega arith in ap (λ n. drop n spots) (sym e)
drop_drop [] a (suc b) = drop-nil a ∙ sym (drop-nil (suc b + a))
drop_drop (x ∷ xs) a (suc b) = let e : suc b + a ≡ suc (b + a) = omega arith in drop_drop xs a b ∙ ap (λ n. drop n (x ∷ xs)) (sym e)

parted : (spots : List Spot) (start end : ℕ) → start ≤ end → drop start spots ≡ take (end - start) (drop start spots) ++ drop end spots
parted spots start end up =
    let e : start + (end - start) ≡ end = omega (arith, up) in
    sym (take-append-drop (end - start) (drop start spots))
    ∙ ap (λ ys. take (end - start) (drop start spots) ++ ys) (drop_drop spots (end - start) start ∙ ap (λ n. drop n spots) e)

module _ (spots new : List Spot) (start end next : ℕ) (first : Spot) (falls : IsFalling spots) (turning : IsTurning spots start end new) (e : next + 1 ≡ start) (first_is : (d : Spot) → get_or spots next d ≡ first) where
  up : next < end
  up = let l : start ≤ end = turning.low in omega (arith, e, l)

  of_run : All (λ x. place x ≡ place first) (take (end - next) (drop next spots))
  of_run k d low =
      let few : k < end - next = omega (arith, low, length-take (end - next) (drop next spots)) in
      let under : next + k < end = omega (arith, few) in
      ap place (get_or-take (end - next) (drop next spots) k d few ∙ get_or-drop next spots k d)
      ∙ run_far spots next end (λ i x from to. turning.run i x (omega (arith, from, e)) to) k d under
      ∙ ap place (first_is d)

  of_back : All (λ x. place x < place first) (drop end spots)
  of_back k d low =
      let within : end + k < length spots = omega (arith, low, length-drop end spots) in
      let low_end : end < length spots = omega (arith, within) in
      let before : end - 1 + 1 ≡ end = omega (arith, up) in
      let differ : place (get_or spots (end - 1) d) ≡ place (get_or spots end d) → ⊥ = turning.edge low_end (end - 1) d before in
      let falls_there : place (get_or spots (end - 1 + 1) d) ≤ place (get_or spots (end - 1) d) = falls (end - 1) d (omega (arith, low_end, before)) in
      let falls_here : place (get_or spots end d) ≤ place (get_or spots (end - 1) d) = subst (λ n. place (get_or spots n d) ≤ place (get_or spots (end - 1) d)) before falls_there in
      let back : place (get_or spots (end + k) d) ≤ place (get_or spots end d) = far_to spots falls end (end + k) d (omega arith) within in
      let front : place (get_or spots (end - 1) d) ≤ place (get_or spots next d) = far_to spots falls next (end - 1) d (omega (arith, up)) (omega (arith, low_end)) in
      let is : place (get_or spots next d) ≡ place first = ap place (first_is d) in
      rw (get_or-drop end spots k d) (omega (arith, differ, falls_here, back, front, is))

  flushed : AreRising (drop next spots) (new ++ take (end - next) (drop next spots))
  flushed =
      subst (λ ys. AreRising ys (new ++ take (end - next) (drop next spots))) (sym (parted spots next end (omega (arith, up))))
      (with_run new (take (end - next) (drop next spots)) (drop end spots) (place first) turning.are of_back of_run)

within : (spots new : List Spot) (start end next : ℕ) → IsTurning spots start end new → next + 1 ≡ start → next < length spots
within spots new start end next turning e = let l : start ≤ end = turning.low in let h : end ≤ length spots = turning.high in omega (arith, e, l, h)

pub turning_begins : (spots new more : List Spot) (start end next to : ℕ) → IsFalling spots → IsTurning spots start end new → next + 1 ≡ start → to ≡ next → Begins spots next → more ≡ new ++ take (end - next) (drop next spots) → IsTurning spots to next more
turning_begins spots new more start end next to falls turning e same begins grown =
    let low : next < length spots = within spots new start end next turning e in
    let some : Spot = some_spot spots next low in
    record {
      low = omega (arith, same);
      high = omega (arith, low);
      last = λ zero. omega (arith, zero, same);
      run = λ k d from under. absurd (omega (arith, from, under, same));
      edge = λ l. begins;
      are = rw grown (flushed spots new start end next (get_or spots next some) falls turning e (λ d. same_element spots next d some low));
    }

pub turning_end : (spots new : List Spot) (start end : ℕ) → IsTurning spots start end new → start ≡ 0 → AreTurned spots new
turning_end spots new start end turning none =
    let are : AreRising (drop 0 spots) new = subst (λ n. AreRising (drop n spots) new) (turning.last none) turning.are in
    record { all = are.all; sorted = sorted_from_rising new are.rises; listed = are.listed }

-- ---- the same behind other references

pub record IsTurningBehind (before spots : List Spot) (start end : ℕ) (new : List Spot) : Type 0 where
  pub part : List Spot
  pub behind : new ≡ before ++ part
  pub turning : IsTurning spots start end part

pub behind_start : (before spots new : List Spot) (start end : ℕ) → start ≡ length spots → end ≡ length spots → new ≡ before → IsTurningBehind before spots start end new
behind_start before spots new start end a b same = record {
  part = [];
  behind = same ∙ sym (append-nil before);
  turning = turning_start spots [] start end a b refl;
}

pub behind_goes_on : (before spots new : List Spot) (start end next to : ℕ) → IsTurningBehind before spots start end new → next + 1 ≡ start → to ≡ next → GoesOn spots next → IsTurningBehind before spots to end new
behind_goes_on before spots new start end next to are e same on = record {
  part = are.part;
  behind = are.behind;
  turning = turning_goes_on spots are.part start end next to are.turning e same on;
}

pub behind_begins : (before spots new more : List Spot) (start end next to : ℕ) → IsFalling spots → IsTurningBehind before spots start end new → next + 1 ≡ start → to ≡ next → Begins spots next → more ≡ new ++ take (end - next) (drop next spots) → IsTurningBehind before spots to next more
behind_begins before spots new more start end next to falls are e same begins grown =
    let run : List Spot = take (end - next) (drop next spots) in
    record {
      part = are.part ++ run;
      behind = grown ∙ ap (λ ys. ys ++ run) are.behind ∙ append_assoc before are.part run;
      turning = turning_begins spots are.part (are.part ++ run) start end next to falls are.turning e same begins refl;
    }

pub behind_end : (before spots new : List Spot) (start end : ℕ) → IsTurningBehind before spots start end new → start ≡ 0 → IsWithShuffled before spots new
behind_end before spots new start end are none =
    let turned : AreTurned spots are.part = turning_end spots are.part start end are.turning none in
    record { part = are.part; behind = are.behind; shuffled = record { all = turned.all; listed = turned.listed } }

pub turned_none : (spots : List Spot) → IsSorted compare_spots spots → AreTurned spots spots
turned_none spots sorted = record { all = IsPermutation-refl spots; sorted = sorted; listed = λ section offset. refl }

pub ruleset turns = (behind_start, behind_end)
