-- Levels of marks, from the atoms of the start to where nothing is new.
use Rattle.std.proofs.Common.{◌≡◌, ◌≢◌, ℕ, zero, suc, ◌+◌, ◌-◌, ◌*◌, ◌^◌, ◌<◌, ◌≤◌, min, Bool, true, false, List, [], ◌∷◌, ◌++◌, All, length, get_or, cond, refl, sym, ◌∙◌, ap, subst, ⊎_elim, arith}
use Rattle.std.specs.Prelude.{◌==◌, ◌&&◌, ◌||◌, not, nat_lt}
use Rattle.std.proofs.lemmas.Bool.{cases_eq, cases_lt}
use Rattle.std.proofs.lemmas.Bool.Decides.{nat_tests}
use Rattle.std.proofs.lemmas.List.Concat.{flat_map-append}
use Rattle.mark_race.specs.Ends.{ends_of, row_of}
use Rattle.mark_race.specs.Least.{AreLeast}
use Rattle.mark_race.specs.Marks.{AreGains, Holding, Race, at_start, is_marked, times}
use Rattle.mark_race.specs.inner.Team.{ArePlaces, IsAtLevel, IsNext}
use Rattle.mark_race.proofs.Steps.{gain_le, times-append, times_cons}
use Rattle.mark_race.proofs.Words.{below_none, below_all, hit, miss, more_apart}

-- ---- sums over the numbers below n

abbrev pub total : ℕ → (ℕ → ℕ) → ℕ
total zero f = 0
total (suc n) f = total n f + f n

total_le : (n : ℕ) (f : ℕ → ℕ) → ((x : ℕ) → f x ≤ 1) → total n f ≤ n
total_le zero f le = omega arith
total_le (suc n) f le = omega (arith, total_le n f le, le n)

total_sum : (n : ℕ) (f g h : ℕ → ℕ) → ((x : ℕ) → f x ≡ g x + h x) → total n f ≡ total n g + total n h
total_sum zero f g h is = refl
total_sum (suc n) f g h is = omega (arith, total_sum n f g h is, is n)

total_some : (n : ℕ) (f : ℕ → ℕ) (y : ℕ) → y < n → 1 ≤ f y → 1 ≤ total n f
total_some zero f y low has = absurd (omega arith)
total_some (suc n) f y low has = ⊎_elim (λ (near : y < n). omega (arith, total_some n f y near has)) (λ (far : n ≤ y). let same : y ≡ n = omega arith in omega (arith, has, ap f same)) (cases_lt y n)

-- ---- numbers that stand in a list

pub here_times : (x : ℕ) (xs : List ℕ) → 0 < times x (x ∷ xs)
here_times x xs = omega (arith, times_cons x x xs, hit x)

pub at_times : (xs : List ℕ) (k d : ℕ) → k < length xs → 0 < times (get_or xs k d) xs
at_times [] k d low = absurd (omega arith)
at_times (x ∷ xs) zero d low = here_times x xs
at_times (x ∷ xs) (suc k) d low = omega (arith, at_times xs k d (omega arith), times_cons (get_or xs k d) x xs)

pub all_from_times : (P : ℕ → Type 0) (xs : List ℕ) → ((x : ℕ) → 0 < times x xs → P x) → All P xs
all_from_times P xs each k d low = each (get_or xs k d) (at_times xs k d low)

length_le : (n : ℕ) (xs : List ℕ) → ((x : ℕ) → 0 < times x xs → x < n) → length xs ≤ total n (λ x. times x xs)
length_le n [] within = omega arith
length_le n (y ∷ ys) within =
    let sum : total n (λ x. times x (y ∷ ys)) ≡ total n (λ x. cond (y == x) 1 0) + total n (λ x. times x ys) = total_sum n (λ x. times x (y ∷ ys)) (λ x. cond (y == x) 1 0) (λ x. times x ys) (λ x. times_cons x y ys) in
    let one : 1 ≤ total n (λ x. cond (y == x) 1 0) = total_some n (λ x. cond (y == x) 1 0) y (within y (here_times y ys)) (omega (arith, hit y)) in
    omega (arith, sum, one, length_le n ys (λ x has. within x (omega (arith, has, times_cons x y ys))))

-- behind the table there is no row
pub row_past : (ends : List (List ℕ)) (atom x : ℕ) → length ends ≤ atom → 0 < times x (row_of ends atom) → ⊥
row_past [] atom x past has = absurd (omega arith)
row_past (row ∷ rows) zero x past has = absurd (omega arith)
row_past (row ∷ rows) (suc atom) x past has = row_past rows atom x (omega arith) has

-- an end of some work is one of an atom of it
from_ends : (ends : List (List ℕ)) (work : List ℕ) (x : ℕ) → 0 < times x (ends_of ends work) → (i : ℕ) × (0 < times i work) × (0 < times x (row_of ends i))
from_ends ends [] x has = absurd (omega arith)
from_ends ends (w ∷ ws) x has = ⊎_elim
    (λ (mine : 0 < times x (row_of ends w)). (w, here_times w ws, mine))
    (λ (not_mine : times x (row_of ends w) ≤ 0). let rest = from_ends ends ws x (omega (arith, has, times-append x (row_of ends w) (ends_of ends ws))) in (rest.0, omega (arith, rest.1, times_cons rest.0 w ws), rest.2))
    (cases_lt 0 (times x (row_of ends w)))

in_ends : (ends : List (List ℕ)) (work : List ℕ) (i x : ℕ) → 0 < times i work → 0 < times x (row_of ends i) → 0 < times x (ends_of ends work)
in_ends ends [] i x has there = absurd (omega arith)
in_ends ends (w ∷ ws) i x has there = ⊎_elim
    (λ (same : w ≡ i). omega (arith, ap (λ (a : ℕ). times x (row_of ends a)) same, there, times-append x (row_of ends w) (ends_of ends ws)))
    (λ (apart : w ≢ i). omega (arith, in_ends ends ws i x (omega (arith, has, times_cons i w ws, miss w i apart)) there, times-append x (row_of ends w) (ends_of ends ws)))
    (cases_eq w i)

true_of : (b : Bool) → 0 < cond {A = ℕ} b 1 0 → b ≡ true
true_of true has = refl
true_of false has = absurd (omega arith)

at_past : (start : List Bool) (x : ℕ) → length start ≤ x → at_start start x ≡ false
at_past [] x past = refl
at_past (b ∷ bs) zero past = absurd (omega arith)
at_past (b ∷ bs) (suc x) past = at_past bs x (omega arith)

both_false : (t : Bool) → cond {A = ℕ} (t && false) 1 0 ≡ 0
both_false true = refl
both_false false = refl

start_below : (start : List Bool) (x : ℕ) → cond {A = ℕ} (nat_lt x (length start) && at_start start x) 1 0 ≡ cond (at_start start x) 1 0
start_below start x = ⊎_elim
    (λ (low : x < length start). below_all x (length start) (at_start start x) low)
    (λ (past : length start ≤ x). let e : at_start start x ≡ false = at_past start x past in ap (λ b. cond {A = ℕ} (nat_lt x (length start) && b) 1 0) e ∙ (both_false (nat_lt x (length start)) ∙ sym (ap (λ b. cond {A = ℕ} b 1 0) e)))
    (cases_lt x (length start))

-- an atom that is marked is below the number of atoms
pub marked_below : (start : List Bool) (x : ℕ) → at_start start x ≡ true → x < length start
marked_below start x is = ⊎_elim (λ (low : x < length start). low) (λ (past : length start ≤ x). absurd (let e : true ≡ false = sym is ∙ at_past start x past in cc)) (cases_lt x (length start))

-- ---- the numbers of the start

pub places_start : (start : List Bool) (work : List ℕ) → work ≡ [] → ArePlaces start 0 work
places_start start work empty = record { each = λ x. ap (times x) empty ∙ sym (below_none x (at_start start x)) }

place_same : (n : ℕ) (is b : Bool) → is ≡ b → cond {A = ℕ} (nat_lt n n && b) 1 0 + cond is 1 0 ≡ cond (nat_lt n (n + 1) && b) 1 0
place_same n true b e = grind (arith, nat_tests)
place_same n false b e = grind (arith, nat_tests)

place_times : (x n : ℕ) (is : Bool) → times x (cond is (n ∷ []) []) ≡ cond is (cond (n == x) 1 0) 0
place_times x n true = omega (arith, times_cons x n [])
place_times x n false = refl

cond_none : (is : Bool) → cond {A = ℕ} is 0 0 ≡ 0
cond_none true = refl
cond_none false = refl

pub places_more : (start : List Bool) (work new : List ℕ) (n place : ℕ) (is : Bool) → ArePlaces start n work → is ≡ at_start start n → place ≡ n → new ≡ work ++ cond is (place ∷ []) [] → ArePlaces start (n + 1) new
places_more start work new n place is so at same grown = record {
  each = λ x.
      let added : times x new ≡ times x work + cond is (cond (n == x) 1 0) 0 = ap (times x) grown ∙ (times-append x work (cond is (place ∷ []) []) ∙ ap (λ (k : ℕ). times x work + k) (ap (λ (p : ℕ). times x (cond is (p ∷ []) [])) same ∙ place_times x n is)) in
      ⊎_elim
      (λ (here : x ≡ n). let P : ℕ → Type 0 = λ y. times y new ≡ cond (nat_lt y (n + 1) && at_start start y) 1 0 in
      subst P (sym here)
      (let at_n : times n new ≡ times n work + cond is (cond (n == n) 1 0) 0 = subst (λ y. times y new ≡ times y work + cond is (cond (n == y) 1 0) 0) here added in
      at_n ∙ (ap (λ (k : ℕ). times n work + cond is k 0) (hit n) ∙ (ap (λ (k : ℕ). k + cond {A = ℕ} is 1 0) (so.each n) ∙ place_same n is (at_start start n) at))))
      (λ (apart : x ≢ n). added ∙ (ap (λ (k : ℕ). times x work + cond is k 0) (miss n x (λ e. apart (sym e))) ∙ (omega (arith, cond_none is, so.each x) ∙ sym (more_apart x n (at_start start x) apart))))
      (cases_eq x n);
}

pub ruleset placing = (places_start, places_more)

-- ---- a level after the other

pub level_start : (race : Race) (ends : List (List ℕ)) (marker : Holding) (start : List Bool) (work : List ℕ) (passes : ℕ) → marker ≡ record { race = race; passes = passes; marks = []; gains = [] } → race.start ≡ start → race.passes ≡ passes → ArePlaces start (length start) work → IsAtLevel race ends marker work
level_start race ends marker start work passes is of all places =
    let each : (x : ℕ) → times x work ≡ cond (at_start race.start x) 1 0 = λ x. places.each x ∙ (start_below start x ∙ ap (λ (l : List Bool). cond {A = ℕ} (at_start l x) 1 0) (sym of)) in
    let gains : (x : ℕ) → times x marker.gains ≡ 0 = λ x. ap (λ (m : Holding). times x m.gains) is in
    record {
      own = ap (λ (m : Holding). m.race) is;
      passes = ap (λ (m : Holding). m.passes) is ∙ sym all;
      done = [];
      marks = λ x. ap (λ (m : Holding). times x m.marks) is;
      all = λ x. omega (arith, each x, gains x);
      once = λ x. omega (arith, gains x);
      within = λ x has. absurd (omega (arith, gains x, has));
      work_once = λ x. omega (arith, each x, gain_le (at_start race.start x));
      work_within = λ x has. marked_below race.start x (true_of (at_start race.start x) (omega (arith, each x, has)));
      least = λ set closed x has. closed.begun x (true_of (at_start race.start x) (omega (arith, each x, has)));
    }

pub level_next : (race : Race) (ends : List (List ℕ)) (marker next : Holding) (work slice gained : List ℕ) → IsAtLevel race ends marker work → slice ≡ work → IsNext race (ends_of ends slice) marker next gained → IsAtLevel race ends next gained
level_next race ends marker next work slice gained so same went =
    let more : (x : ℕ) → times x (ends_of ends slice) ≡ times x (ends_of ends work) = λ x. ap (λ (l : List ℕ). times x (ends_of ends l)) same in
    record {
      own = went.own;
      passes = went.passes ∙ so.passes;
      done = so.done ++ work;
      marks = λ x. omega (arith, went.marks x, more x, so.marks x, ap (times x) (flat_map-append (row_of ends) so.done work), times-append x (ends_of ends so.done) (ends_of ends work));
      all = λ x. omega (arith, times-append x so.done work, so.all x, went.gains x);
      once = went.once;
      within = went.within;
      work_once = λ x. omega (arith, went.gains x, went.once x);
      work_within = λ x has. went.within x (omega (arith, went.gains x, has));
      least = λ set closed x has. ⊎_elim
          (λ (old : 0 < times x so.done + times x work). so.least set closed x old)
          (λ (not_old : times x so.done + times x work ≤ 0).
          let of = from_ends ends work x (omega (arith, has, not_old, times-append x so.done work, went.among x, more x)) in
          closed.led of.0 x (so.least set closed of.0 (omega (arith, of.1))) of.2)
          (cases_lt 0 (times x so.done + times x work));
    }

pub level_few : (race : Race) (ends : List (List ℕ)) (marker : Holding) (work slice : List ℕ) → IsAtLevel race ends marker work → slice ≡ work → length race.start < 2 ^ 32 → length slice < 2 ^ 32
level_few race ends marker work slice so same few =
    let n : ℕ = length race.start in
    let long : length work ≤ n = omega (arith, length_le n work so.work_within, total_le n (λ x. times x work) so.work_once) in omega (arith, ap length same, long, few)

pub level_work : (race : Race) (ends : List (List ℕ)) (marker : Holding) (work slice : List ℕ) → IsAtLevel race ends marker work → slice ≡ work → length ends ≡ length race.start → All (λ atom. atom < length ends) slice
level_work race ends marker work slice so same long = subst (All (λ (atom : ℕ). atom < length ends)) (sym same) (all_from_times (λ (atom : ℕ). atom < length ends) work (λ x has. omega (arith, so.work_within x has, long)))

-- what is left: twice the atoms that weren't gained, and one where there is work
abbrev pub left : Race → Holding → List ℕ → ℕ
left race marker work = 2 * (length race.start - total (length race.start) (λ x. times x marker.gains)) + min 1 (length work)

pub level_smaller : (race : Race) (ends : List (List ℕ)) (marker next : Holding) (work gained atoms : List ℕ) → 0 < length work → IsNext race atoms marker next gained → left race next gained < left race marker work
level_smaller race ends marker next work [] atoms some_work went =
    let n : ℕ = length race.start in
    let sum = total_sum n (λ x. times x next.gains) (λ x. times x marker.gains) (λ x. 0) (λ x. omega (arith, went.gains x)) in omega (arith, sum, some_work)
level_smaller race ends marker next work (y ∷ ys) atoms some_work went =
    let n : ℕ = length race.start in
    let sum = total_sum n (λ x. times x next.gains) (λ x. times x marker.gains) (λ x. times x (y ∷ ys)) went.gains in
    let here : 0 < times y (y ∷ ys) = here_times y ys in
    let near : y < n = went.within y (omega (arith, went.gains y, here)) in
    let one : 1 ≤ total n (λ x. times x (y ∷ ys)) = total_some n (λ x. times x (y ∷ ys)) y near (omega (arith, here)) in
    let most : total n (λ x. times x next.gains) ≤ n = total_le n (λ x. times x next.gains) went.once in omega (arith, sum, one, most, some_work)

pub level_done : (race : Race) (ends : List (List ℕ)) (marker : Holding) (work : List ℕ) → IsAtLevel race ends marker work → length work ≡ 0 → IsAtLevel race ends marker []
level_done race ends marker [] so empty = so
level_done race ends marker (w ∷ ws) so empty = absurd (omega arith)

pub ruleset levelling = (level_next, level_few, level_work, level_done)

-- ---- the end

end_times : (start : List Bool) (marks gains : List ℕ) (x s : ℕ) → AreGains start marks gains → s ≡ cond (at_start start x) 1 0 + times x gains → is_marked start marks x ≡ true → 0 < s
end_times start marks gains x s gain is marked = omega (arith, is, gain.each x, by (at_start start x) (is_marked start marks x) marked)
  where
    by : (b m : Bool) → m ≡ true → 0 < cond {A = ℕ} b 1 0 + cond {A = ℕ} (m && not b) 1 0
    by true m e = omega arith
    by false true e = omega arith
    by false false e = absurd (let f : true ≡ false = sym e in cc)

marked_by_mark : (start : List Bool) (marks : List ℕ) (x : ℕ) → 0 < times x marks → is_marked start marks x ≡ true
marked_by_mark start marks x has = by (at_start start x) (times x marks) has
  where
    by : (b : Bool) (n : ℕ) → 0 < n → (b || nat_lt 0 n) ≡ true
    by true n low = refl
    by false n low = grind (arith, nat_tests)

marked_at_start : (start : List Bool) (marks : List ℕ) (x : ℕ) → at_start start x ≡ true → is_marked start marks x ≡ true
marked_at_start start marks x is = ap (λ b. b || nat_lt 0 (times x marks)) is

row_within : (ends : List (List ℕ)) (n x y : ℕ) → All (λ row. All (λ atom. atom < n) row) ends → x < length ends → 0 < times y (row_of ends x) → y < n
row_within ends n x y all low has = in_row (row_of ends x) (all x [] low) has
  where
    in_row : (row : List ℕ) → All (λ atom. atom < n) row → 0 < times y row → y < n
    in_row [] each there = absurd (omega arith)
    in_row (z ∷ zs) each there = ⊎_elim
        (λ (same : z ≡ y). subst (λ (k : ℕ). k < n) same (each 0 0 (omega arith)))
        (λ (apart : z ≢ y). in_row zs (λ k d near. each (suc k) d (omega arith)) (omega (arith, there, times_cons y z zs, miss z y apart)))
        (cases_eq z y)

pub level_end : (race : Race) (ends : List (List ℕ)) (marker : Holding) (start into marked : List Bool) → IsAtLevel race ends marker [] → race.start ≡ start → length ends ≡ length start → All (λ row. All (λ atom. atom < length start) row) ends
    → AreGains race.start marker.marks marker.gains → ((atom : ℕ) → atom < length race.start → at_start into atom ≡ is_marked race.start marker.marks atom) → length into ≡ length start → marked ≡ into → AreLeast ends start marked
level_end race ends marker start into marked so of long within gain told kept same = subst (λ (l : List Bool). AreLeast ends start l) (sym same) (subst (λ (s : List Bool). AreLeast ends s into) of least_of)
  where
    n : ℕ
    n = length race.start

    is_long : length into ≡ length race.start
    is_long = kept ∙ ap length (sym of)

    ends_long : length ends ≡ length race.start
    ends_long = long ∙ ap length (sym of)

    ends_within : All (λ row. All (λ atom. atom < length race.start) row) ends
    ends_within = subst (λ (s : List Bool). All (λ row. All (λ atom. atom < length s) row) ends) (sym of) within

    below : (x : ℕ) → at_start into x ≡ true → x < length race.start
    below x is = omega (arith, marked_below into x is, is_long)

    done_of : (x : ℕ) → at_start into x ≡ true → 0 < times x so.done
    done_of x is = end_times race.start marker.marks marker.gains x (times x so.done) gain (omega (arith, so.all x)) (sym (told x (below x is)) ∙ is)

    least_of : AreLeast ends race.start into
    least_of = record {
      long = is_long;
      closed = record {
        begun = λ x is. told x (marked_below race.start x is) ∙ marked_at_start race.start marker.marks x is;
        led = λ x y is has.
            let y_low : y < length race.start = row_within ends (length race.start) x y ends_within (omega (arith, below x is, ends_long)) has in
            let mark : 0 < times y marker.marks = omega (arith, so.marks y, in_ends ends so.done x y (done_of x is) has) in
            told y y_low ∙ marked_by_mark race.start marker.marks y mark;
      };
      least = λ set closed x is. so.least set closed x (omega (arith, done_of x is));
    }

pub ruleset marking = (level_start, level_end)
