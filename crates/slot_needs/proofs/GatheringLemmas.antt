-- Needs so far, and what is noted of the pool.
use Rattle.std.proofs.Common.{◌≡◌, ◌≢◌, ℕ, zero, suc, ◌<◌, ◌⊎◌, inl, inr, Bool, true, false, List, [], ◌∷◌, ◌++◌, length, get_or, Option, Some, None, Contains, refl, sym, ap, ◌∙◌, subst, arith, if◌then◌else◌}
use Rattle.std.specs.Prelude.{replicate, slice_get, slice_set, unwrap_or}
use Rattle.std.proofs.lemmas.Option.{slice_get-get_or}
use Rattle.mo_types.specs.declared.goal.Goal.TheVariants.{Nobody}
use Rattle.list_lemmas.proofs.Members.{Contains_from_in, in_from_Contains, in_left, in_right}
use Rattle.mo_types.specs.declared.goal.Goal.{Goal}
use Rattle.resolve.specs.Table.{goal_in}
use Rattle.slot_plan.specs.declared.need.Need.{Need}
use Rattle.slot_plan.specs.declared.need.Way.{Way}
use Rattle.slot_plan.specs.declared.need.Way.TheVariants.{Got, Stub, Tlv}
use Rattle.slot_needs.specs.declared.ways.Ways.{Ways}
use Rattle.slot_needs.specs.inner.Gathered.{AreNoted, Gathered, has, need, no_way, with_way}
use Rattle.slot_needs.proofs.WalkLemmas.{goal_there}

each_is : {X : Type 0} (n at : ℕ) (x y : X) → slice_get (replicate n x) at ≡ Some y → x ≡ y
each_is zero at x y e = absurd cc
each_is (suc n) zero x y e = cc
each_is (suc n) (suc at) x y e = each_is n at x y e

pub none_noted : (pool : List Goal) (n : ℕ) (ways : Ways) (needs : List Need) → ((way : Way) → has ways way ≡ false) → AreNoted pool (replicate n ways) needs
none_noted pool n ways needs none place is goal way there of known = absurd (let same : ways ≡ is = each_is n place ways is there in let no : has ways way ≡ false = none way in cc)

pub more_noted : (pool : List Goal) (seen : List Ways) (needs more : List Need) → AreNoted pool seen needs → AreNoted pool seen (needs ++ more)
more_noted pool seen needs more noted place ways goal way there of known =
    Contains_from_in (needs ++ more) (need goal way) (in_left needs more (need goal way) (in_from_Contains needs (need goal way) (noted place ways goal way there of known)))

-- ---- a place of the pool

get_set : {X : Type 0} (xs : List X) (at other : ℕ) (x y : X) → slice_get (slice_set xs at x) other ≡ Some y → ((at ≡ other) × (x ≡ y)) ⊎ (slice_get xs other ≡ Some y)
get_set [] at other x y e = inr e
get_set (z ∷ xs) zero zero x y e = inl (refl, cc)
get_set (z ∷ xs) zero (suc other) x y e = inr e
get_set (z ∷ xs) (suc at) zero x y e = inr e
get_set (z ∷ xs) (suc at) (suc other) x y e = elim (get_set xs at other x y e) [
  | inl same ↦ inl (ap suc same.0, same.1)
  | inr there ↦ inr there
]

with_has : (ways : Ways) (way other : Way) → has (with_way ways way) other ≡ true → (way ≡ other) ⊎ (has ways other ≡ true)
with_has ways Got Got e = inl refl
with_has ways Got Stub e = inr e
with_has ways Got Tlv e = inr e
with_has ways Stub Got e = inr e
with_has ways Stub Stub e = inl refl
with_has ways Stub Tlv e = inr e
with_has ways Tlv Got e = inr e
with_has ways Tlv Stub e = inr e
with_has ways Tlv Tlv e = inl refl

pub place_noted : (pool : List Goal) (seen : List Ways) (needs : List Need) (place : ℕ) (way : Way) → place < length seen → AreNoted pool seen needs → Contains needs (need (goal_in pool place) way) → AreNoted pool (slice_set seen place (with_way (get_or seen place no_way) way)) needs
place_noted pool seen needs place way within noted there other ways goal asked at of known = by (get_set seen place other (with_way (get_or seen place no_way) way) ways at)
  where
    new : place ≡ other → way ≡ asked → Contains needs (need goal asked)
    new same by_way =
        let is : goal_in pool place ≡ goal = ap (λ (k : ℕ). unwrap_or (slice_get pool k) Nobody) same ∙ ap (λ (o : Option Goal). unwrap_or o Nobody) of in
        subst (Contains needs) (ap (λ (g : Goal). need g way) is ∙ ap (need goal) by_way) there

    by : ((place ≡ other) × (with_way (get_or seen place no_way) way ≡ ways)) ⊎ (slice_get seen other ≡ Some ways) → Contains needs (need goal asked)
    by (inr untouched) = noted other ways goal asked untouched of known
    by (inl (same, is)) = elim (with_has (get_or seen place no_way) way asked (ap (λ (w : Ways). has w asked) is ∙ known)) [
      | inl by_way ↦ new same by_way
      | inr before ↦ noted other (get_or seen place no_way) goal asked (subst (λ (k : ℕ). slice_get seen k ≡ Some (get_or seen place no_way)) same (slice_get-get_or seen place no_way within)) of before
    ]

pub last_there : (needs : List Need) (n : Need) → Contains (needs ++ n ∷ []) n
last_there needs n = Contains_from_in (needs ++ n ∷ []) n (in_right needs (n ∷ []) n (inl refl))

pub long_still : {X : Type 0} (xs : List X) (at n : ℕ) (x : X) → length xs ≡ n → length (slice_set xs at x) ≡ n
long_still [] at n x e = e
long_still (y ∷ xs) zero n x e = e
long_still (y ∷ xs) (suc at) n x e = ap suc (long_still xs at (length xs) x refl) ∙ e

pub long_first : {X : Type 0} (n : ℕ) (x : X) → length (replicate n x) ≡ n
long_first zero x = refl
long_first (suc n) x = ap suc (long_first n x)

-- the place of a need that was put last is noted
pub noted_after : (first pool : List Goal) (seen new : List Ways) (old needs : List Need) (place : ℕ) (way : Way) (goal : Goal) → place < length first → pool ≡ first → needs ≡ old ++ need goal way ∷ [] → goal ≡ get_or first place goal → new ≡ slice_set seen place (with_way (get_or seen place no_way) way) → (length seen ≡ length pool) × AreNoted pool seen needs → (length new ≡ length pool) × AreNoted pool new needs
noted_after first pool seen new old needs place way goal within same are is made noted =
    let inside : place < length seen = subst (λ (n : ℕ). place < n) (ap (λ (gs : List Goal). length gs) (sym same) ∙ sym noted.0) within in
    let named : goal_in pool place ≡ goal = ap (λ (gs : List Goal). goal_in gs place) same ∙ goal_there first first place goal refl within is in
    rw made (long_still seen place (length pool) (with_way (get_or seen place no_way) way) noted.0, place_noted pool seen needs place way inside noted.1 (by named))
  where
    by : goal_in pool place ≡ goal → Contains needs (need (goal_in pool place) way)
    by named = subst (Contains needs) (ap (λ (g : Goal). need g way) (sym named)) (subst (λ (ns : List Need). Contains ns (need goal way)) (sym are) (last_there old (need goal way)))

pub shown_after : (first pool : List Goal) (old needs : List Need) (place : ℕ) (way : Way) (goal : Goal) → place < length first → pool ≡ first → needs ≡ old ++ need goal way ∷ [] → goal ≡ get_or first place goal → ◌≡◌ {A = Gathered} (record { pool = pool; needs = needs }) (record { pool = first; needs = old ++ need (goal_in first place) way ∷ [] })
shown_after first pool old needs place way goal within same are is =
    let named : goal_in first place ≡ goal = goal_there first first place goal refl within is in
    rw (same, are, named) refl

pub ruleset begins = (none_noted, long_first)

pub ruleset noted = (refl)

pub ruleset adds = (more_noted)

pub ruleset marks = (refl)
