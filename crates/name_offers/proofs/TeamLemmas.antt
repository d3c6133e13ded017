-- The racers of a race, made from one and made into one.
use Rattle.std.proofs.Common.{◌≡◌, ℕ, ◌+◌, ◌-◌, ◌<◌, List, [], ◌∷◌, ◌++◌, All, sum_by, length, get_or, map, take, refl, sym, ap, ◌∙◌, subst, arith, append_assoc, append-nil, length-append}
use Rattle.std.specs.List.Sorted.{IsPermutation}
use Rattle.std.proofs.lemmas.List.Concat.{flat_map-append}
use Rattle.std.proofs.lemmas.List.Elements.{All-append, All-cons, All-nil, All-head, All-same}
use Rattle.std.proofs.lemmas.List.Sorted.{IsPermutation-append_comm, IsPermutation-trans}
use Rattle.std.proofs.Math.Seq.{take-append_seam}
use Rattle.std.proofs.lemmas.List.{get_or-map, length-map}
use Rattle.std.proofs.lemmas.List.Sums.{sum_by-append, sum_by-cons}
use Rattle.race_core.specs.Run.{run}
use Rattle.race_core.proofs.Runs.{run-IsPermutation}
use Rattle.name_race.specs.Race.{Holding, Race}
use Rattle.name_offers.specs.Offers.{GrewBy, offers_of}
use Rattle.name_offers.specs.inner.Offering.{AreRacers}

-- ---- one racer for each pass

-- racers that were made with the one that is left
pub record IsSplit (race : Race) (passes : ℕ) (first : Holding) (racers : List Holding) : Type 0 where
  pub races : All (λ (racer : Holding). racer.race ≡ race) racers
  pub own : first.race ≡ race
  pub all_passes : sum_by (λ (racer : Holding). racer.passes) racers + first.passes ≡ passes
  pub ones : sum_by (λ (racer : Holding). racer.passes) racers ≡ length racers
  pub nothing : offers_of racers ≡ []
  pub none : first.offers ≡ []

one_sum : (first : Holding) → sum_by (λ (racer : Holding). racer.passes) (first ∷ []) ≡ first.passes
one_sum first = omega arith

pub split_start : (race : Race) (passes : ℕ) (first : Holding) → AreRacers race passes (first ∷ []) → IsSplit race passes first []
split_start race passes first are = record {
  races = All-nil (λ (racer : Holding). racer.race ≡ race);
  own = All-head (λ (racer : Holding). racer.race ≡ race) first [] are.races;
  all_passes = omega (arith, one_sum first, are.all_passes);
  ones = refl;
  nothing = refl;
  none = sym (append-nil first.offers) ∙ are.nothing;
}

pub split_more : (race : Race) (passes : ℕ) (first left new : Holding) (racers more : List Holding) → IsSplit race passes first racers → 1 < first.passes → left ≡ record first { passes = first.passes - 1 } → new ≡ record first { passes = 1; offers = [] } → more ≡ racers ++ new ∷ [] → IsSplit race passes left more
split_more race passes first left new racers more so some is made grown = record {
  races = All-same (λ (racer : Holding). racer.race ≡ race) more (racers ++ new ∷ []) grown (All-append (λ (racer : Holding). racer.race ≡ race) racers (new ∷ []) so.races (All-cons (λ (racer : Holding). racer.race ≡ race) new [] (ap (λ (r : Holding). r.race) made ∙ so.own) (All-nil (λ (racer : Holding). racer.race ≡ race))));
  own = ap (λ (r : Holding). r.race) is ∙ so.own;
  all_passes = omega (arith, sums, ap (λ (r : Holding). r.passes) is, so.all_passes, some);
  ones = omega (arith, sums, longer, so.ones);
  nothing = ap offers_of grown ∙ flat_map-append (λ (r : Holding). r.offers) racers (new ∷ []) ∙ ap (λ (l : List (ℕ × ℕ)). l ++ (new.offers ++ [])) so.nothing ∙ ap (λ (l : List (ℕ × ℕ)). l ++ []) (ap (λ (r : Holding). r.offers) made);
  none = ap (λ (r : Holding). r.offers) is ∙ so.none;
}
  where
    sums : sum_by (λ (racer : Holding). racer.passes) more ≡ sum_by (λ (racer : Holding). racer.passes) racers + 1
    sums = ap (sum_by (λ (racer : Holding). racer.passes)) grown ∙ omega (arith, sum_by-append (λ (racer : Holding). racer.passes) racers (new ∷ []), one_sum new, ap (λ (r : Holding). r.passes) made)

    longer : length more ≡ length racers + 1
    longer = ap length grown ∙ omega (arith, length-append racers (new ∷ []))

pub split_end : (race : Race) (passes : ℕ) (first : Holding) (racers more : List Holding) → IsSplit race passes first racers → more ≡ racers ++ first ∷ [] → AreRacers race passes more
split_end race passes first racers more so grown = record {
  races = All-same (λ (racer : Holding). racer.race ≡ race) more (racers ++ first ∷ []) grown (All-append (λ (racer : Holding). racer.race ≡ race) racers (first ∷ []) so.races (All-cons (λ (racer : Holding). racer.race ≡ race) first [] so.own (All-nil (λ (racer : Holding). racer.race ≡ race))));
  all_passes = ap (sum_by (λ (racer : Holding). racer.passes)) grown ∙ omega (arith, sum_by-append (λ (racer : Holding). racer.passes) racers (first ∷ []), one_sum first, so.all_passes);
  nothing = ap offers_of grown ∙ flat_map-append (λ (r : Holding). r.offers) racers (first ∷ []) ∙ ap (λ (l : List (ℕ × ℕ)). l ++ (first.offers ++ [])) so.nothing ∙ ap (λ (l : List (ℕ × ℕ)). l ++ []) so.none;
}

pub ruleset teams = (split_start, split_more, split_end)

-- a racer that took others in
pub record IsJoined (race : Race) (first now : Holding) (racers : List Holding) : Type 0 where
  pub own : now.race ≡ race
  pub passes : now.passes ≡ first.passes + sum_by (λ (racer : Holding). racer.passes) racers
  pub offers : now.offers ≡ first.offers ++ offers_of racers

pub join_start : (race : Race) (first : Holding) → first.race ≡ race → IsJoined race first first []
join_start race first is = record { own = is; passes = omega arith; offers = sym (append-nil first.offers) }

pub join_more : (race : Race) (first now next racer : Holding) (racers more : List Holding) → IsJoined race first now racers → next ≡ record now { passes = now.passes + racer.passes; offers = now.offers ++ racer.offers; known = now.known ++ racer.known } → more ≡ racers ++ racer ∷ [] → IsJoined race first next more
join_more race first now next racer racers more so is grown = record {
  own = ap (λ (r : Holding). r.race) is ∙ so.own;
  passes = ap (λ (r : Holding). r.passes) is ∙ omega (arith, so.passes, ap (sum_by (λ (r : Holding). r.passes)) grown, sum_by-append (λ (r : Holding). r.passes) racers (racer ∷ []), one_sum racer);
  offers =
      ap (λ (r : Holding). r.offers) is
      ∙ ap (λ (l : List (ℕ × ℕ)). l ++ racer.offers) so.offers
      ∙ append_assoc first.offers (offers_of racers) racer.offers
      ∙ ap (λ (l : List (ℕ × ℕ)). first.offers ++ l) (ap (λ (l : List (ℕ × ℕ)). offers_of racers ++ l) (sym (append-nil racer.offers)) ∙ sym (flat_map-append (λ (r : Holding). r.offers) racers (racer ∷ [])) ∙ ap offers_of (sym grown));
}

pub join_passes : (race : Race) (first now : Holding) (racers all : List Holding) → IsJoined race first now racers → all ≡ racers ++ first ∷ [] → now.passes ≡ sum_by (λ (racer : Holding). racer.passes) all
join_passes race first now racers all so is = so.passes ∙ omega (arith, ap (sum_by (λ (r : Holding). r.passes)) is, sum_by-append (λ (r : Holding). r.passes) racers (first ∷ []), one_sum first)

pub join_offers : (race : Race) (first now : Holding) (racers all : List Holding) → IsJoined race first now racers → all ≡ racers ++ first ∷ [] → IsPermutation (offers_of all) now.offers
join_offers race first now racers all so is =
    subst (λ (l : List (ℕ × ℕ)). IsPermutation l now.offers) (sym (ap offers_of is ∙ flat_map-append (λ (r : Holding). r.offers) racers (first ∷ []) ∙ ap (λ (l : List (ℕ × ℕ)). offers_of racers ++ l) (append-nil first.offers)))
    (subst (IsPermutation (offers_of racers ++ first.offers)) (sym so.offers) (IsPermutation-append_comm (offers_of racers) first.offers))

pub ruleset joins = (join_start, join_more, join_passes, join_offers)

-- ---- what racers keep while they offer

pub races_kept : (race : Race) (a b : List Holding) → map (λ (r : Holding). r.race) b ≡ map (λ (r : Holding). r.race) a → All (λ (racer : Holding). racer.race ≡ race) a → All (λ (racer : Holding). racer.race ≡ race) b
races_kept race a b same all k d low =
    let low' : k < length a = omega (arith, low, length-map a (λ (r : Holding). r.race), length-map b (λ (r : Holding). r.race), ap length same) in
    sym (get_or-map (λ (r : Holding). r.race) b k d d.race low)
    ∙ ap (λ (l : List Race). get_or l k d.race) same
    ∙ get_or-map (λ (r : Holding). r.race) a k d d.race low'
    ∙ all k d low'

as_sum : (racers : List Holding) → sum_by (λ (r : Holding). r.passes) racers ≡ sum_by (λ (n : ℕ). n) (map (λ (r : Holding). r.passes) racers)
as_sum [] = refl
as_sum (r ∷ racers) = omega (arith, as_sum racers, sum_by-cons (λ (q : Holding). q.passes) r racers, sum_by-cons (λ (n : ℕ). n) r.passes (map (λ (q : Holding). q.passes) racers))

pub passes_kept : (a b : List Holding) → map (λ (r : Holding). r.passes) b ≡ map (λ (r : Holding). r.passes) a → sum_by (λ (r : Holding). r.passes) b ≡ sum_by (λ (r : Holding). r.passes) a
passes_kept a b same = as_sum b ∙ ap (sum_by (λ (n : ℕ). n)) same ∙ sym (as_sum a)

-- the words of a race in which these were all offers
pub words_are : (start into : List ℕ) (bids offers : List (ℕ × ℕ)) (before after : List Holding) → offers_of before ≡ [] → GrewBy bids before after → IsPermutation (offers_of after) offers → into ≡ run start offers → into ≡ run start bids
words_are start into bids offers before after none grew joined is =
    is ∙ sym (run-IsPermutation start bids offers (IsPermutation-trans bids (offers_of after) offers (subst (λ (l : List (ℕ × ℕ)). IsPermutation (l ++ bids) (offers_of after)) none grew) joined))

pub front_is : (len : ℕ) (into rest : List ℕ) → len ≡ length into → take len (into ++ rest) ≡ into
front_is len into rest is = ap (λ (n : ℕ). take n (into ++ rest)) is ∙ take-append_seam into rest
