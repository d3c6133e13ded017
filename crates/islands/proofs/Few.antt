-- Targets that were met, each at least once.
use Rattle.std.proofs.Common.{◌≡◌, ℕ, ◌+◌, ◌<◌, ◌≤◌, ◌⊎◌, ◌++◌, List, [], ◌∷◌, length, take, map, get_or, Contains, IsPermutation, sym, ap, subst, ◌∙◌, inl, inr}
use Rattle.std.proofs.lemmas.List.{map-append, take_more, take_all}
use Rattle.std.proofs.lemmas.List.Sorted.{Contains-permutation, IsPermutation-map, IsPermutation-sym}
use Rattle.list_lemmas.proofs.Members.{In, in_from_Contains, Contains_from_in, from_last, in_last, in_left, in_map}
use Rattle.sect_place.specs.declared.island.BranchTarget.{BranchTarget}
use Rattle.islands.specs.declared.branch.Branch.{Branch}
use Rattle.islands.specs.declared.numbering.Keyed.{Keyed}
use Rattle.islands.specs.Targets.{AreTargets}
use Rattle.islands.specs.inner.Held.{HasTheSame, targets_behind}

abbrev goes : List Branch → List BranchTarget
goes branches = map (λ (branch : Branch). branch.target) branches

pub few_starts : (keyed : List Keyed) → keyed ≡ [] → HasTheSame [] (targets_behind keyed)
few_starts keyed e = rw e (record { all = λ target h. h; only = λ target h. h })

joined : (front few : List BranchTarget) (new : BranchTarget) → HasTheSame front few → HasTheSame (front ++ new ∷ []) (few ++ new ∷ [])
joined front few new same = record {
  all = λ target h. Contains_from_in (few ++ new ∷ []) target (moved target front few same.all (from_last front new target (in_from_Contains (front ++ new ∷ []) target h)));
  only = λ target h. Contains_from_in (front ++ new ∷ []) target (moved target few front same.only (from_last few new target (in_from_Contains (few ++ new ∷ []) target h)));
}
  where
    moved : (target : BranchTarget) (xs ys : List BranchTarget) → ((t : BranchTarget) → Contains xs t → Contains ys t) → In target xs ⊎ (new ≡ target) → In target (ys ++ new ∷ [])
    moved target xs ys there (inl h) = in_left ys (new ∷ []) target (in_from_Contains ys target (there target (Contains_from_in xs target h)))
    moved target xs ys there (inr e) = subst (λ (t : BranchTarget). In t (ys ++ new ∷ [])) e (in_last ys new)

met : (front few : List BranchTarget) (new : BranchTarget) → HasTheSame front few → Contains few new → HasTheSame (front ++ new ∷ []) few
met front few new same there = record {
  all = λ target h. known target (from_last front new target (in_from_Contains (front ++ new ∷ []) target h));
  only = λ target h. Contains_from_in (front ++ new ∷ []) target (in_left front (new ∷ []) target (in_from_Contains front target (same.only target h)));
}
  where
    known : (target : BranchTarget) → In target front ⊎ (new ≡ target) → Contains few target
    known target (inl h) = same.all target (Contains_from_in front target h)
    known target (inr e) = subst (λ (t : BranchTarget). Contains few t) e there

taken : (branches : List Branch) (i : ℕ) (branch : Branch) → i < length branches → branch ≡ get_or branches i branch → goes (take (i + 1) branches) ≡ goes (take i branches) ++ branch.target ∷ []
taken branches i branch within is =
    ap goes (take_more branches i branch within ∙ ap (λ (b : Branch). take i branches ++ b ∷ []) (sym is))
    ∙ map-append (λ (b : Branch). b.target) (take i branches) (branch ∷ [])

pub few_pushed : (branches : List Branch) (i : ℕ) (branch : Branch) (few new : List Keyed) (each : Keyed) → HasTheSame (goes (take i branches)) (targets_behind few) → i < length branches → branch ≡ get_or branches i branch → each.target.now ≡ branch.target → new ≡ few ++ each ∷ [] → HasTheSame (goes (take (i + 1) branches)) (targets_behind new)
few_pushed branches i branch few new each same within is at grown =
    let shown : targets_behind new ≡ targets_behind few ++ branch.target ∷ [] = ap targets_behind grown ∙ (map-append (λ (k : Keyed). k.target.now) few (each ∷ []) ∙ ap (λ (t : BranchTarget). targets_behind few ++ t ∷ []) at) in
    rw (shown, taken branches i branch within is) (joined (goes (take i branches)) (targets_behind few) branch.target same)

pub few_met : (branches : List Branch) (i : ℕ) (branch : Branch) (few slice : List Keyed) → HasTheSame (goes (take i branches)) (targets_behind few) → i < length branches → branch ≡ get_or branches i branch → slice ≡ few → Contains (targets_behind slice) branch.target → HasTheSame (goes (take (i + 1) branches)) (targets_behind few)
few_met branches i branch few slice same within is are there =
    rw (taken branches i branch within is) (met (goes (take i branches)) (targets_behind few) branch.target same (subst (λ (ks : List Keyed). Contains (targets_behind ks) branch.target) are there))

pub few_ends : (branches : List Branch) (i : ℕ) (few : List Keyed) → HasTheSame (goes (take i branches)) (targets_behind few) → length branches ≤ i → HasTheSame (goes branches) (targets_behind few)
few_ends branches i few same past = subst (λ (bs : List Branch). HasTheSame (goes bs) (targets_behind few)) (take_all i branches past) same

pub found_at : (keyed : List Keyed) (place : ℕ) (each : Keyed) (target : BranchTarget) → place < length keyed → each ≡ get_or keyed place each → each.target.now ≡ target → Contains (targets_behind keyed) target
found_at keyed place each target within is same =
    Contains_from_in (targets_behind keyed) target
    (subst (λ (t : BranchTarget). In t (targets_behind keyed)) same (in_map (λ (k : Keyed). k.target.now) keyed each (in_from_Contains keyed each (place, within, sym is))))

-- the same in another order
pub few_moved : (goes : List BranchTarget) (few moved : List Keyed) → HasTheSame goes (targets_behind few) → IsPermutation few moved → HasTheSame goes (targets_behind moved)
few_moved goes few moved same moves =
    let shown : IsPermutation (targets_behind few) (targets_behind moved) = IsPermutation-map (λ (k : Keyed). k.target.now) few moved moves in
    record {
      all = λ target h. Contains-permutation (targets_behind few) (targets_behind moved) target shown (same.all target h);
      only = λ target h. same.only target (Contains-permutation (targets_behind moved) (targets_behind few) target (IsPermutation-sym (targets_behind few) (targets_behind moved) shown) h);
    }

pub targets_of_same : (goes few targets : List BranchTarget) → HasTheSame goes few → AreTargets few targets → AreTargets goes targets
targets_of_same goes few targets same are = record {
  rises = are.rises;
  all = λ target h. are.all target (same.all target h);
  only = λ target h. same.only target (are.only target h);
}
