-- The markers of a race, made of one and made into one.
use Rattle.std.proofs.Common.{◌≡◌, ℕ, ◌+◌, ◌-◌, ◌<◌, ◌≤◌, List, [], ◌∷◌, ◌++◌, All, sum_by, length, get_or, map, refl, sym, ap, ◌∙◌, subst, arith, length-append}
use Rattle.std.proofs.lemmas.List.{get_or-map, length-map}
use Rattle.std.proofs.lemmas.List.Elements.{All-append, All-cons, All-nil, All-same}
use Rattle.std.proofs.lemmas.List.Sums.{sum_by-append, sum_by-cons}
use Rattle.mark_race.specs.Level.{HaveMarked, marks_by, gains_by}
use Rattle.mark_race.specs.Marks.{Holding, Race, times}
use Rattle.mark_race.specs.inner.Team.{IsNext, IsTeam, IsUnion}
use Rattle.mark_race.proofs.Steps.{times-append}

sum_more : (f : Holding → ℕ) (ms : List Holding) (m : Holding) → sum_by f (ms ++ m ∷ []) ≡ sum_by f ms + f m
sum_more f ms m = omega (arith, sum_by-append f ms (m ∷ []), sum_by-cons f m [])

races_more : (race : Race) (ms more : List Holding) (m : Holding) → All (λ (m : Holding). m.race ≡ race) ms → m.race ≡ race → more ≡ ms ++ m ∷ [] → All (λ (m : Holding). m.race ≡ race) more
races_more race ms more m all own grown = All-same (λ (m : Holding). m.race ≡ race) more (ms ++ m ∷ []) grown (All-append (λ (m : Holding). m.race ≡ race) ms (m ∷ []) all (All-cons (λ (m : Holding). m.race ≡ race) m [] own (All-nil (λ (m : Holding). m.race ≡ race))))

-- markers that were made with the one that is left
pub record IsSplit (race : Race) (one first : Holding) (team : List Holding) : Type 0 where
  pub races : All (λ (m : Holding). m.race ≡ race) team
  pub own : first.race ≡ race
  pub passes : length team + first.passes ≡ one.passes
  pub ones : sum_by (λ (m : Holding). m.passes) team ≡ length team
  pub marks : (x : ℕ) → marks_by team x + times x first.marks ≡ times x one.marks
  pub gains : (x : ℕ) → gains_by team x + times x first.gains ≡ times x one.gains

pub split_start : (race : Race) (one : Holding) (team : List Holding) → one.race ≡ race → team ≡ [] → IsSplit race one one team
split_start race one team own empty = subst (λ (l : List Holding). IsSplit race one one l) (sym empty) record {
  races = All-nil (λ (m : Holding). m.race ≡ race);
  own = own;
  passes = omega arith;
  ones = refl;
  marks = λ x. omega arith;
  gains = λ x. omega arith;
}

pub split_more : (race : Race) (one first left new : Holding) (team more : List Holding) → IsSplit race one first team → 1 < first.passes → left ≡ record first { passes = first.passes - 1 } → new ≡ record { race = race; passes = 1; marks = []; gains = [] } → more ≡ team ++ new ∷ [] → IsSplit race one left more
split_more race one first left new team more so fewer is made grown = record {
  races = races_more race team more new so.races (ap (λ (m : Holding). m.race) made) grown;
  own = ap (λ (m : Holding). m.race) is ∙ so.own;
  passes = omega (arith, ap length grown, length-append team (new ∷ []), ap (λ (m : Holding). m.passes) is, so.passes, fewer);
  ones = omega (arith, ap (sum_by (λ (m : Holding). m.passes)) grown, sum_more (λ (m : Holding). m.passes) team new, ap (λ (m : Holding). m.passes) made, so.ones, ap length grown, length-append team (new ∷ []));
  marks = λ x. omega (arith, ap (sum_by (λ (m : Holding). times x m.marks)) grown, sum_more (λ (m : Holding). times x m.marks) team new, ap (λ (m : Holding). times x m.marks) made, ap (λ (m : Holding). times x m.marks) is, so.marks x);
  gains = λ x. omega (arith, ap (sum_by (λ (m : Holding). times x m.gains)) grown, sum_more (λ (m : Holding). times x m.gains) team new, ap (λ (m : Holding). times x m.gains) made, ap (λ (m : Holding). times x m.gains) is, so.gains x);
}

pub split_end : (race : Race) (one first : Holding) (team more : List Holding) → IsSplit race one first team → more ≡ team ++ first ∷ [] → IsTeam race one more
split_end race one first team more so grown = record {
  races = races_more race team more first so.races so.own grown;
  passes = omega (arith, ap (sum_by (λ (m : Holding). m.passes)) grown, sum_more (λ (m : Holding). m.passes) team first, so.ones, so.passes);
  marks = λ x. omega (arith, ap (sum_by (λ (m : Holding). times x m.marks)) grown, sum_more (λ (m : Holding). times x m.marks) team first, so.marks x);
  gains = λ x. omega (arith, ap (sum_by (λ (m : Holding). times x m.gains)) grown, sum_more (λ (m : Holding). times x m.gains) team first, so.gains x);
}

pub ruleset splits = (split_start, split_more, split_end)

-- a marker that took others in
pub join_start : (race : Race) (first : Holding) → first.race ≡ race → IsUnion race (first ∷ []) first
join_start race first own = record {
  own = own;
  passes = omega (arith, sum_by-cons (λ (m : Holding). m.passes) first []);
  marks = λ x. omega (arith, sum_by-cons (λ (m : Holding). times x m.marks) first []);
  gains = λ x. omega (arith, sum_by-cons (λ (m : Holding). times x m.gains) first []);
}

pub join_more : (race : Race) (first now next marker : Holding) (ms more : List Holding) → IsUnion race (first ∷ ms) now → next ≡ record now { passes = now.passes + marker.passes; marks = now.marks ++ marker.marks; gains = now.gains ++ marker.gains } → more ≡ ms ++ marker ∷ [] → IsUnion race (first ∷ more) next
join_more race first now next marker ms more so is grown = record {
  own = ap (λ (m : Holding). m.race) is ∙ so.own;
  passes = omega (arith, ap (λ (m : Holding). m.passes) is, so.passes, longer (λ (m : Holding). m.passes));
  marks = λ x. omega (arith, ap (λ (m : Holding). times x m.marks) is, times-append x now.marks marker.marks, so.marks x, longer (λ (m : Holding). times x m.marks));
  gains = λ x. omega (arith, ap (λ (m : Holding). times x m.gains) is, times-append x now.gains marker.gains, so.gains x, longer (λ (m : Holding). times x m.gains));
}
  where
    longer : (f : Holding → ℕ) → sum_by f (first ∷ more) ≡ sum_by f (first ∷ ms) + f marker
    longer f = omega (arith, sum_by-cons f first more, sum_by-cons f first ms, ap (sum_by f) grown, sum_more f ms marker)

pub join_end : (race : Race) (first now : Holding) (ms all : List Holding) → IsUnion race (first ∷ ms) now → all ≡ ms ++ first ∷ [] → IsUnion race all now
join_end race first now ms all so is = record {
  own = so.own;
  passes = omega (arith, so.passes, turned (λ (m : Holding). m.passes));
  marks = λ x. omega (arith, so.marks x, turned (λ (m : Holding). times x m.marks));
  gains = λ x. omega (arith, so.gains x, turned (λ (m : Holding). times x m.gains));
}
  where
    turned : (f : Holding → ℕ) → sum_by f all ≡ sum_by f (first ∷ ms)
    turned f = omega (arith, ap (sum_by f) is, sum_more f ms first, sum_by-cons f first ms)

pub ruleset joins = (join_start, join_more, join_end)

-- ---- a level, by one marker

pub races_kept : (race : Race) (a b : List Holding) → map (λ (m : Holding). m.race) b ≡ map (λ (m : Holding). m.race) a → All (λ (m : Holding). m.race ≡ race) a → All (λ (m : Holding). m.race ≡ race) b
races_kept race a b same all k d low =
    let low' : k < length a = omega (arith, low, length-map a (λ (m : Holding). m.race), length-map b (λ (m : Holding). m.race), ap length same) in
    sym (get_or-map (λ (m : Holding). m.race) b k d d.race low) ∙ (ap (λ (l : List Race). get_or l k d.race) same ∙ (get_or-map (λ (m : Holding). m.race) a k d d.race low' ∙ all k d low'))

pub as_many : (a b : List Holding) → map (λ (m : Holding). m.passes) b ≡ map (λ (m : Holding). m.passes) a → length b ≡ length a
as_many a b same = sym (length-map b (λ (m : Holding). m.passes)) ∙ (ap length same ∙ length-map a (λ (m : Holding). m.passes))

as_sum : (ms : List Holding) → sum_by (λ (m : Holding). m.passes) ms ≡ sum_by (λ (n : ℕ). n) (map (λ (m : Holding). m.passes) ms)
as_sum [] = refl
as_sum (m ∷ ms) = omega (arith, as_sum ms, sum_by-cons (λ (m : Holding). m.passes) m ms, sum_by-cons (λ (n : ℕ). n) m.passes (map (λ (m : Holding). m.passes) ms))

pub next_is : (race : Race) (atoms : List ℕ) (before one after : Holding) (team ends : List Holding) (gained : List ℕ) → IsTeam race before team → HaveMarked atoms team ends gained → IsUnion race ends one
    → after ≡ one → ((x : ℕ) → times x one.gains ≤ 1) → ((x : ℕ) → 0 < times x one.gains → x < length race.start) → IsNext race atoms before after gained
next_is race atoms before one after team ends gained made marked union same once within = subst (λ (m : Holding). IsNext race atoms before m gained) (sym same) record {
  own = union.own;
  passes = omega (arith, union.passes, as_sum ends, as_sum team, ap (sum_by (λ (n : ℕ). n)) marked.passes, made.passes);
  marks = λ x. omega (arith, union.marks x, marked.marks x, made.marks x);
  gains = λ x. omega (arith, union.gains x, marked.gains x, made.gains x);
  among = marked.among;
  once = once;
  within = within;
}

pub team_some : (team : List Holding) (n count : ℕ) → n ≡ length team → n ≡ count → 0 < count → 0 < length team
team_some team n count is same some_workers = omega arith

pub ruleset levelling = (next_is, races_kept, as_many)
