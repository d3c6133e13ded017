-- Each step keeps the rule of the marks.
use Rattle.std.proofs.Common.{◌≡◌, ◌≢◌, ℕ, zero, suc, ◌+◌, ◌/◌, ◌%◌, ◌^◌, ◌<◌, ◌≤◌, Bool, true, false, List, [], ◌∷◌, ◌++◌, length, get_or, set, cond, refl, sym, ◌∙◌, ap, subst, ⊎_elim, arith}
use Rattle.std.specs.Prelude.{sum_by, ◌==◌, ◌&&◌, ◌||◌, not, nat_lt, bit_or}
use Rattle.std.specs.Int.{bit_at}
use mathlib.Core.Option.{none, some, some-injective, some-ne-none}
use lib.ListN.{get_elem?}
use Rattle.std.proofs.lemmas.Bool.{cases_eq, cases_lt}
use Rattle.std.proofs.lemmas.Bool.Decides.{nat_tests}
use Rattle.std.proofs.lemmas.List.{length-set, set-get_or}
use Rattle.std.proofs.lemmas.List.Sums.{sum_by-cons, sum_by-append}
use Rattle.std.proofs.lemmas.Nat.Bits.{bit_at-pow_same, bit_at-pow_other}
use Rattle.atomic_table.specs.Table.{State, Me, keeps, Allows, Splits, Joins, step, opening}
use Rattle.atomic_table.proofs.Lists.{at_set, at_snoc, set_again}
use Rattle.mark_race.specs.declared.rule.Terms.{Terms}
use Rattle.mark_race.specs.declared.rule.View.{View}
use Rattle.mark_race.specs.Marks.{AreGains, at_start, is_marked, times}
use Rattle.mark_race.specs.Rule.{first_view, spent_view, giver, newcomer, union_of, gain_of, with_mark, bit_of, marked_by, gained_by, Fits, IsMarking, Marked, Looked}
use Rattle.mark_race.proofs.Words.{hit, miss, set_same, set_apart}

-- ---- sums over the views

-- a sum over the views after a change of one
sum_set : (f : View → ℕ) (views : List View) (id : ℕ) (v w : View) → get_elem? views id ≡ some v → sum_by f (set views id w) + f v ≡ sum_by f views + f w
sum_set f [] id v w at = absurd (some-ne-none v (sym at))
sum_set f (x ∷ xs) zero v w at = let e : f x ≡ f v = ap f (some-injective x v at) in omega (arith, sum_by-cons f x xs, sum_by-cons f w xs)
sum_set f (x ∷ xs) (suc id) v w at = omega (arith, sum_set f xs id v w at, sum_by-cons f x xs, sum_by-cons f x (set xs id w))

-- with one more
sum_push : (f : View → ℕ) (views : List View) (w : View) → sum_by f (views ++ w ∷ []) ≡ sum_by f views + f w
sum_push f views w = omega (arith, sum_by-append f views (w ∷ []), sum_by-cons f w [])

sum_one : (f : View → ℕ) (w : View) → sum_by f (w ∷ []) ≡ f w
sum_one f w = omega (arith, sum_by-cons f w [])

-- a view's part is among all
part_le : (f : View → ℕ) (views : List View) (id : ℕ) (v : View) → get_elem? views id ≡ some v → f v ≤ sum_by f views
part_le f [] id v at = absurd (some-ne-none v (sym at))
part_le f (x ∷ xs) zero v at = let e : f x ≡ f v = ap f (some-injective x v at) in omega (arith, sum_by-cons f x xs)
part_le f (x ∷ xs) (suc id) v at = omega (arith, part_le f xs id v at, sum_by-cons f x xs)

-- where no view has passes, none has a part
no_parts : (f : View → ℕ) (views : List View) → ((seat : ℕ) (u : View) → get_elem? views seat ≡ some u → u.passes ≡ 0 → f u ≡ 0) → sum_by (λ (u : View). u.passes) views ≡ 0 → sum_by f views ≡ 0
no_parts f [] idle zero' = refl
no_parts f (x ∷ xs) idle zero' =
    let p = sum_by-cons (λ (u : View). u.passes) x xs in
    let one : f x ≡ 0 = idle 0 x refl (omega (arith, p, zero')) in omega (arith, one, no_parts f xs (λ seat u at idles. idle (suc seat) u at idles) (omega (arith, p, zero')), sum_by-cons f x xs)

-- a view with all passes has all
alone : (f : View → ℕ) (views : List View) (id : ℕ) (v : View) → ((seat : ℕ) (u : View) → get_elem? views seat ≡ some u → u.passes ≡ 0 → f u ≡ 0) → get_elem? views id ≡ some v → sum_by (λ (u : View). u.passes) views ≡ v.passes → sum_by f views ≡ f v
alone f [] id v idle at all = absurd (some-ne-none v (sym at))
alone f (x ∷ xs) zero v idle at all =
    let e : f x ≡ f v = ap f (some-injective x v at) in
    let p : x.passes ≡ v.passes = ap (λ (u : View). u.passes) (some-injective x v at) in
    let rest : sum_by f xs ≡ 0 = no_parts f xs (λ seat u at' idles. idle (suc seat) u at' idles) (omega (arith, sum_by-cons (λ (u : View). u.passes) x xs, all, p)) in omega (arith, e, rest, sum_by-cons f x xs)
alone f (x ∷ xs) (suc id) v idle at all =
    let few : v.passes ≤ sum_by (λ (u : View). u.passes) xs = part_le (λ (u : View). u.passes) xs id v at in
    let p = sum_by-cons (λ (u : View). u.passes) x xs in
    let one : f x ≡ 0 = idle 0 x refl (omega (arith, p, few, all)) in omega (arith, one, alone f xs id v (λ seat u at' idles. idle (suc seat) u at' idles) at (omega (arith, p, few, all)), sum_by-cons f x xs)

-- ---- how often an atom stands in a list

pub times-append : (x : ℕ) (xs ys : List ℕ) → times x (xs ++ ys) ≡ times x xs + times x ys
times-append x xs ys = sum_by-append (λ (y : ℕ). cond (y == x) 1 0) xs ys

pub times_cons : (x y : ℕ) (ys : List ℕ) → times x (y ∷ ys) ≡ cond (y == x) 1 0 + times x ys
times_cons x y ys = sum_by-cons (λ (y : ℕ). cond (y == x) 1 0) y ys

pub times_push : (x : ℕ) (xs : List ℕ) (y : ℕ) → times x (xs ++ y ∷ []) ≡ times x xs + cond (y == x) 1 0
times_push x xs y = omega (arith, times-append x xs (y ∷ []), times_cons x y [])

-- an atom that is gained is gained once
gain_times : (x atom found : ℕ) → times x (gain_of atom found) ≡ cond (bit_at found (atom % 64) == 0) (cond (atom == x) 1 0) 0
gain_times x atom found = by (bit_at found (atom % 64) == 0)
  where
    by : (b : Bool) → times x (cond b (atom ∷ []) []) ≡ cond b (cond (atom == x) 1 0) 0
    by true = omega (arith, times_cons x atom [])
    by false = refl

cond_le : (b c : Bool) → cond b (cond c 1 0) 0 ≤ cond {A = ℕ} c 1 0
cond_le true c = omega arith
cond_le false c = omega arith

-- ---- marked or not, by numbers

either_none : (b : Bool) (n : ℕ) → n ≡ 0 → (b || nat_lt 0 n) ≡ b
either_none true n zero' = refl
either_none false n zero' = grind (arith, nat_tests)

gain_none : (b : Bool) (n : ℕ) → n ≡ 0 → cond {A = ℕ} (nat_lt 0 n && b) 1 0 ≡ 0
gain_none true n zero' = grind (arith, nat_tests)
gain_none false n zero' = grind (arith, nat_tests)

bit_more : (b : Bool) (n m : ℕ) → n ≡ m + 1 → cond {A = ℕ} (b || nat_lt 0 n) 1 0 ≡ 1
bit_more true n m more = refl
bit_more false n m more = grind (arith, nat_tests)

-- the gains of an atom after a mark
gain_more : (b : Bool) (m g bit e : ℕ) → bit ≡ cond (b || nat_lt 0 m) 1 0 → g ≡ cond (nat_lt 0 m && not b) 1 0 → e ≡ cond (bit == 0) 1 0 → g + e ≡ cond (nat_lt 0 (m + 1) && not b) 1 0
gain_more true m g bit e p q r = grind (arith, nat_tests)
gain_more false m g bit e p q r = grind (arith, nat_tests)

not_marked : (b : Bool) (m n bit : ℕ) → bit ≡ cond (b || nat_lt 0 m) 1 0 → n ≤ m → bit ≡ 0 → (b || nat_lt 0 n) ≡ false
not_marked true m n bit p le zero' = absurd (omega arith)
not_marked false m n bit p le zero' = grind (arith, nat_tests)

pub gain_le : (b : Bool) → cond {A = ℕ} b 1 0 ≤ 1
gain_le true = omega arith
gain_le false = omega arith

-- a power of two tells its exponent
pow_same : (i k : ℕ) → 2 ^ i ≡ 2 ^ k → i ≡ k
pow_same i k e = ⊎_elim (λ same. same) (λ (apart : i ≢ k). absurd (omega (arith, ap (λ n. bit_at n i) e, bit_at-pow_same i, bit_at-pow_other k i apart))) (cases_eq i k)

pub same_atom : (a b : ℕ) → a / 64 ≡ b / 64 → 2 ^ (a % 64) ≡ 2 ^ (b % 64) → a ≡ b
same_atom a b w p = let k = pow_same (a % 64) (b % 64) p in omega (arith, w, k)

-- ---- the views

each_set : (terms : Terms) (views : List View) (id : ℕ) (w : View) → ((seat : ℕ) (u : View) → get_elem? views seat ≡ some u → Fits terms u) → Fits terms w → (seat : ℕ) (u : View) → get_elem? (set views id w) seat ≡ some u → Fits terms u
each_set terms views id w all fits seat u at = ⊎_elim (λ x. subst (Fits terms) x.1 fits) (λ x. all seat u x.1) (at_set views id seat w u at)

not_idle : {X : Type 0} (n : ℕ) → 0 < n → n ≡ 0 → X
not_idle n has zero' = absurd (omega arith)

no_times : (x : ℕ) (xs : List ℕ) → xs ≡ [] → times x xs ≡ 0
no_times x xs empty = ap (times x) empty

-- the first marker
pub begins : (terms : Terms) (words : List ℕ) (start : List Bool) → terms.start.items ≡ start → length words ≡ length start / 64 + 1 → ((atom : ℕ) → atom < length start → bit_of words atom ≡ cond (at_start start atom) 1 0) → IsMarking terms (opening words [] (first_view terms))
begins terms words start is long of_start = record {
  words = subst (λ (l : List Bool). length words ≡ length l / 64 + 1) (sym is) long;
  bits = λ x near. bits x near ∙ ap (λ b. cond {A = ℕ} b 1 0) (sym (either_none (at_start terms.start.items x) (marked_by (first_view terms ∷ []) x) (sum_one (λ (v : View). times x v.marks) (first_view terms))));
  gained = λ x. sum_one (λ (v : View). times x v.gains) (first_view terms) ∙ sym (gain_none (not (at_start terms.start.items x)) (marked_by (first_view terms ∷ []) x) (sum_one (λ (v : View). times x v.marks) (first_view terms)));
  passes = sum_one (λ (v : View). v.passes) (first_view terms);
  views = one;
}
  where
    bits : (atom : ℕ) → atom < length terms.start.items → bit_of words atom ≡ cond (at_start terms.start.items atom) 1 0
    bits = subst (λ (l : List Bool). (atom : ℕ) → atom < length l → bit_of words atom ≡ cond (at_start l atom) 1 0) (sym is) of_start

    one : (seat : ℕ) (v : View) → get_elem? (first_view terms ∷ []) seat ≡ some v → Fits terms v
    one zero v e = subst (Fits terms) (some-injective (first_view terms) v e) record {
      start = λ _. refl;
      all_passes = λ _. refl;
      no_marks = λ _. refl;
      no_gains = λ _. refl;
      within = λ x has. absurd (omega arith);
      marked = λ x. omega arith;
    }
    one (suc seat) v e = absurd (some-ne-none v (sym e))

module _ (terms : Terms) (slots id atom : ℕ) (v : View) (some_passes : 0 < v.passes) (near : atom < length terms.start.items) where
  pub marks : Allows (IsMarking terms) slots id (v, []) (atom / 64) (λ n. bit_or n (2 ^ (atom % 64))) (Marked (step slots (atom / 64) (2 ^ (atom % 64)) 0 none) (v, []))
  marks s h _ at _ =
      let found : ℕ = get_or s.words (atom / 64) 0 in
      let w : View = with_mark v atom found in
      let fits : Fits terms v = h.views id v at in
      let there : atom / 64 < length s.words = omega (arith, h.words) in
      let marked : (x : ℕ) → marked_by (set s.views id w) x ≡ marked_by s.views x + cond (atom == x) 1 0 = λ x. omega (arith, sum_set (λ (v : View). times x v.marks) s.views id v w at, times_push x v.marks atom) in
      let gained : (x : ℕ) → gained_by (set s.views id w) x ≡ gained_by s.views x + times x (gain_of atom found) = λ x. omega (arith, sum_set (λ (v : View). times x v.gains) s.views id v w at, times-append x v.gains (gain_of atom found)) in
      let own : marked_by (set s.views id w) atom ≡ marked_by s.views atom + 1 = omega (arith, marked atom, hit atom) in
      let others : (x : ℕ) → x ≢ atom → marked_by (set s.views id w) x ≡ marked_by s.views x = λ x apart. omega (arith, marked x, miss atom x (λ e. apart (sym e))) in
      let gain : times atom (gain_of atom found) ≡ cond (bit_at found (atom % 64) == 0) 1 0 = gain_times atom atom found ∙ ap (λ n. cond (bit_at found (atom % 64) == 0) n 0) (hit atom) in
      let no_gain : (x : ℕ) → x ≢ atom → times x (gain_of atom found) ≡ 0 = λ x apart. omega (arith, gain_times x atom found, cond_le (bit_at found (atom % 64) == 0) (atom == x), miss atom x (λ e. apart (sym e))) in
      let le : (x : ℕ) → times x v.marks ≤ marked_by s.views x = λ x. part_le (λ (v : View). times x v.marks) s.views id v at in (
        w,
        keeps,
        tt,
        record {
          words = length-set s.words (atom / 64) (bit_or found (2 ^ (atom % 64))) ∙ h.words;
          bits = λ x low. ⊎_elim
              (λ (same : x ≡ atom). subst (λ y. bit_of (set s.words (atom / 64) (bit_or found (2 ^ (atom % 64)))) y ≡ cond (at_start terms.start.items y || nat_lt 0 (marked_by (set s.views id w) y)) 1 0) (sym same)
              (set_same s.words atom there ∙ sym (bit_more (at_start terms.start.items atom) (marked_by (set s.views id w) atom) (marked_by s.views atom) own)))
              (λ (apart : x ≢ atom). set_apart s.words atom x there apart ∙ (h.bits x low ∙ ap (λ n. cond {A = ℕ} (at_start terms.start.items x || nat_lt 0 n) 1 0) (sym (others x apart))))
              (cases_eq x atom);
          gained = λ x. ⊎_elim
              (λ (same : x ≡ atom). subst (λ y. gained_by (set s.views id w) y ≡ cond (nat_lt 0 (marked_by (set s.views id w) y) && not (at_start terms.start.items y)) 1 0) (sym same)
              (gained atom ∙ (gain_more (at_start terms.start.items atom) (marked_by s.views atom) (gained_by s.views atom) (bit_of s.words atom) (times atom (gain_of atom found)) (h.bits atom near) (h.gained atom) gain
              ∙ ap (λ n. cond {A = ℕ} (nat_lt 0 n && not (at_start terms.start.items atom)) 1 0) (sym own))))
              (λ (apart : x ≢ atom). omega (arith, gained x, no_gain x apart) ∙ (h.gained x ∙ ap (λ n. cond {A = ℕ} (nat_lt 0 n && not (at_start terms.start.items x)) 1 0) (sym (others x apart))))
              (cases_eq x atom);
          passes = omega (arith, sum_set (λ (v : View). v.passes) s.views id v w at, h.passes);
          views = each_set terms s.views id w h.views record {
            start = fits.start;
            all_passes = fits.all_passes;
            no_marks = not_idle v.passes some_passes;
            no_gains = not_idle v.passes some_passes;
            within = λ x has. ⊎_elim
                (λ (same : x ≡ atom). subst (λ y. y < length terms.start.items) (sym same) near)
                (λ (apart : x ≢ atom). fits.within x (omega (arith, has, times_push x v.marks atom, miss atom x (λ e. apart (sym e)))))
                (cases_eq x atom);
            marked = λ x. omega (arith, fits.marked x, times_push x v.marks atom, times-append x v.gains (gain_of atom found), gain_times x atom found, cond_le (bit_at found (atom % 64) == 0) (atom == x));
          };
        },
        λ other word first. tells s h at found refl le other (same_atom other atom (sym word) (sym first)),
      )
    where
      tells : (s : State (Unit {0}) View) (h : IsMarking terms s) → get_elem? s.views id ≡ some v → (found : ℕ) → found ≡ get_or s.words (atom / 64) 0 → ((x : ℕ) → times x v.marks ≤ marked_by s.views x) → (other : ℕ) → other ≡ atom
          → (bit_at found (other % 64) ≡ 0 → (at_start v.start other || nat_lt 0 (times other v.marks)) ≡ false) × (◌≡◌ {A = Me (Unit {0}) View} (with_mark v atom found, []) (with_mark v other found, []))
      tells s h at found is le other same =
          let P : ℕ → Type 0 = λ y. (bit_at found (y % 64) ≡ 0 → (at_start v.start y || nat_lt 0 (times y v.marks)) ≡ false) × (◌≡◌ {A = Me (Unit {0}) View} (with_mark v atom found, []) (with_mark v y found, [])) in
          let own : bit_of s.words atom ≡ cond (at_start v.start atom || nat_lt 0 (marked_by s.views atom)) 1 0 = h.bits atom near ∙ ap (λ (l : List Bool). cond {A = ℕ} (at_start l atom || nat_lt 0 (marked_by s.views atom)) 1 0) (sym ((h.views id v at).start some_passes)) in
          let new : bit_at found (atom % 64) ≡ 0 → (at_start v.start atom || nat_lt 0 (times atom v.marks)) ≡ false = λ e. not_marked (at_start v.start atom) (marked_by s.views atom) (times atom v.marks) (bit_of s.words atom) own (le atom) (sym (ap (λ n. bit_at n (atom % 64)) is) ∙ e) in
          subst P (sym same) (new, refl)

pub looks : (terms : Terms) (slots id word : ℕ) (v : View) → 0 < v.passes → Allows (IsMarking terms) slots id (v, []) word (λ n. n) (Looked (step slots word 0 0 none) (v, []))
looks terms slots id word v some_passes s h _ at _ =
    let fits : Fits terms v = h.views id v at in
    let still : set s.words word (get_or s.words word 0) ≡ s.words = set-get_or s.words word 0 in
    let same : set s.views id v ≡ s.views = set_again s.views id v at in
    let start : v.start ≡ terms.start.items = fits.start some_passes in (
      v,
      keeps,
      tt,
      subst (λ ws. IsMarking terms record { words = ws; homes = s.homes; views = set s.views id v }) (sym still) (subst (λ vs. IsMarking terms record { words = s.words; homes = s.homes; views = vs }) (sym same) h),
      (
        (λ x. omega (arith, part_le (λ (v : View). times x v.gains) s.views id v at, h.gained x, gain_le (nat_lt 0 (marked_by s.views x) && not (at_start terms.start.items x)))),
        (λ x has. subst (λ (l : List Bool). x < length l) (sym start) (fits.within x (omega (arith, has, fits.marked x)))),
        refl,
      ),
    )

-- where an atom is marked and gained as often as before, so it stays
module _ (terms : Terms) (s : State (Unit {0}) View) (h : IsMarking terms s) (views : List View) (marked : (x : ℕ) → marked_by views x ≡ marked_by s.views x) (gained : (x : ℕ) → gained_by views x ≡ gained_by s.views x) where
  bits_stay : (x : ℕ) → x < length terms.start.items → bit_of s.words x ≡ cond (at_start terms.start.items x || nat_lt 0 (marked_by views x)) 1 0
  bits_stay x low = h.bits x low ∙ ap (λ n. cond {A = ℕ} (at_start terms.start.items x || nat_lt 0 n) 1 0) (sym (marked x))

  gains_stay : (x : ℕ) → gained_by views x ≡ cond (nat_lt 0 (marked_by views x) && not (at_start terms.start.items x)) 1 0
  gains_stay x = gained x ∙ (h.gained x ∙ ap (λ n. cond {A = ℕ} (nat_lt 0 n && not (at_start terms.start.items x)) 1 0) (sym (marked x)))

pub splits : (terms : Terms) (id count : ℕ) (v : View) → 0 < count → count < v.passes → Splits (IsMarking terms) id v (giver v count) (newcomer v count)
splits terms id count v some_passes fewer s h at =
    let left : View = giver v count in
    let right : View = newcomer v count in
    let fits : Fits terms v = h.views id v at in
    let views : List View = set s.views id left in
    let marked : (x : ℕ) → marked_by (views ++ right ∷ []) x ≡ marked_by s.views x = λ x. omega (arith, sum_set (λ (v : View). times x v.marks) s.views id v left at, sum_push (λ (v : View). times x v.marks) views right) in
    let gained : (x : ℕ) → gained_by (views ++ right ∷ []) x ≡ gained_by s.views x = λ x. omega (arith, sum_set (λ (v : View). times x v.gains) s.views id v left at, sum_push (λ (v : View). times x v.gains) views right) in record {
      words = h.words;
      bits = bits_stay terms s h (views ++ right ∷ []) marked gained;
      gained = gains_stay terms s h (views ++ right ∷ []) marked gained;
      passes = omega (arith, h.passes, sum_set (λ (v : View). v.passes) s.views id v left at, sum_push (λ (v : View). v.passes) views right);
      views = λ seat u at'. ⊎_elim
          (λ was. each_set terms s.views id left h.views record {
            start = λ _. fits.start (omega arith);
            all_passes = λ _. fits.all_passes (omega arith);
            no_marks = not_idle left.passes (omega arith);
            no_gains = not_idle left.passes (omega arith);
            within = fits.within;
            marked = fits.marked;
          } seat u was)
          (λ (e : right ≡ u). subst (Fits terms) e record {
            start = λ _. fits.start (omega arith);
            all_passes = λ _. fits.all_passes (omega arith);
            no_marks = λ _. refl;
            no_gains = λ _. refl;
            within = λ x has. absurd (omega arith);
            marked = λ x. omega arith;
          })
          (at_snoc views right u seat at');
    }

pub joins : (terms : Terms) (id other : ℕ) (v w : View) → 0 < v.passes → Joins (IsMarking terms) id v other w (union_of v w) spent_view
joins terms id other v w some_passes s h at apart there =
    let both : View = union_of v w in
    let views : List View = set s.views id both in
    let last : List View = set views other spent_view in
    let fits : Fits terms v = h.views id v at in
    let was : get_elem? s.views other ≡ some w = ⊎_elim (λ (x : (other ≡ id) × (both ≡ w)). absurd (apart x.0)) (λ (x : (other ≢ id) × (get_elem? s.views other ≡ some w)). x.1) (at_set s.views id other both w there) in
    let theirs : Fits terms w = h.views other w was in
    let marked : (x : ℕ) → marked_by last x ≡ marked_by s.views x = λ x. omega (arith, sum_set (λ (v : View). times x v.marks) s.views id v both at, sum_set (λ (v : View). times x v.marks) views other w spent_view there, times-append x v.marks w.marks) in
    let gained : (x : ℕ) → gained_by last x ≡ gained_by s.views x = λ x. omega (arith, sum_set (λ (v : View). times x v.gains) s.views id v both at, sum_set (λ (v : View). times x v.gains) views other w spent_view there, times-append x v.gains w.gains) in record {
      words = h.words;
      bits = bits_stay terms s h last marked gained;
      gained = gains_stay terms s h last marked gained;
      passes = omega (arith, h.passes, sum_set (λ (v : View). v.passes) s.views id v both at, sum_set (λ (v : View). v.passes) views other w spent_view there);
      views = each_set terms views other spent_view (each_set terms s.views id both h.views record {
        start = λ _. fits.start some_passes;
        all_passes = λ _. fits.all_passes some_passes;
        no_marks = not_idle both.passes (omega arith);
        no_gains = not_idle both.passes (omega arith);
        within = λ x has. ⊎_elim (λ (mine : 0 < times x v.marks). fits.within x mine) (λ (not_mine : times x v.marks ≤ 0). theirs.within x (omega (arith, has, times-append x v.marks w.marks))) (cases_lt 0 (times x v.marks));
        marked = λ x. omega (arith, fits.marked x, theirs.marked x, times-append x v.marks w.marks, times-append x v.gains w.gains);
      }) record {
        start = λ p. not_idle 0 p refl;
        all_passes = λ p. not_idle 0 p refl;
        no_marks = λ _. refl;
        no_gains = λ _. refl;
        within = λ x has. absurd (omega arith);
        marked = λ x. omega arith;
      };
    }

-- the same steps at a marker that holds no slot
pub marks_at : (terms : Terms) (slots id atom : ℕ) (me : Me (Unit {0}) View) → me.1 ≡ [] → 0 < me.0.passes → atom < length terms.start.items → (k : ℕ) → k ≡ 2 ^ (atom % 64)
    → Allows (IsMarking terms) slots id me (atom / 64) (λ n. bit_or n k) (Marked (step slots (atom / 64) k 0 none) me)
marks_at terms slots id atom me empty some_passes near k is =
    subst (λ b. Allows (IsMarking terms) slots id me (atom / 64) (λ n. bit_or n b) (Marked (step slots (atom / 64) b 0 none) me)) (sym is)
    (subst (λ c. Allows (IsMarking terms) slots id (me.0, c) (atom / 64) (λ n. bit_or n (2 ^ (atom % 64))) (Marked (step slots (atom / 64) (2 ^ (atom % 64)) 0 none) (me.0, c))) (sym empty) (marks terms slots id atom me.0 some_passes near))

pub looks_at : (terms : Terms) (slots id word : ℕ) (me : Me (Unit {0}) View) → me.1 ≡ [] → 0 < me.0.passes → Allows (IsMarking terms) slots id me word (λ n. n) (Looked (step slots word 0 0 none) me)
looks_at terms slots id word me empty some_passes = subst (λ c. Allows (IsMarking terms) slots id (me.0, c) word (λ n. n) (Looked (step slots word 0 0 none) (me.0, c))) (sym empty) (looks terms slots id word me.0 some_passes)

-- where a marker has all passes, the bits are those of its marks, and it gained each new atom
module _ (terms : Terms) (id : ℕ) (v : View) (s : State (Unit {0}) View) (h : IsMarking terms s) (at : get_elem? s.views id ≡ some v) (all : v.passes ≡ terms.passes) where
  all_marks : (x : ℕ) → marked_by s.views x ≡ times x v.marks
  all_marks x = alone (λ (v : View). times x v.marks) s.views id v (λ seat u at' idle. no_times x u.marks ((h.views seat u at').no_marks idle)) at (h.passes ∙ sym all)

  all_gains : (x : ℕ) → gained_by s.views x ≡ times x v.gains
  all_gains x = alone (λ (v : View). times x v.gains) s.views id v (λ seat u at' idle. no_times x u.gains ((h.views seat u at').no_gains idle)) at (h.passes ∙ sym all)

  pub settles : (x : ℕ) → x < length terms.start.items → (bit_of s.words x == 1) ≡ is_marked terms.start.items v.marks x
  settles x low = ap (λ n. n == 1) (h.bits x low ∙ ap (λ n. cond {A = ℕ} (at_start terms.start.items x || nat_lt 0 n) 1 0) (all_marks x)) ∙ tested (is_marked terms.start.items v.marks x)
    where
      tested : (b : Bool) → (cond {A = ℕ} b 1 0 == 1) ≡ b
      tested true = refl
      tested false = refl

  pub settles_gains : AreGains terms.start.items v.marks v.gains
  settles_gains = record { each = λ x. sym (all_gains x) ∙ (h.gained x ∙ (ap (λ n. cond {A = ℕ} (nat_lt 0 n && not (at_start terms.start.items x)) 1 0) (all_marks x) ∙ either (at_start terms.start.items x) (nat_lt 0 (times x v.marks)))) }
    where
      either : (b m : Bool) → cond {A = ℕ} (m && not b) 1 0 ≡ cond ((b || m) && not b) 1 0
      either true true = refl
      either true false = refl
      either false true = refl
      either false false = refl
