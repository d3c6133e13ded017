-- Links and libraries that pass the tests are whole, and others don't pass.
use Rattle.std.proofs.Common.{◌≡◌, ◌↔◌, ℕ, zero, suc, ◌+◌, ◌-◌, ◌<◌, ◌≤◌, ◌⊎◌, Bool, true, false, IsTrue, List, [], length, get_or, slice_get, Contains, Some, refl, sym, ap, subst, ◌∙◌, inl, inr, arith}
use Rattle.std.proofs.Math.ListN.{get_or-eq_default}
use Rattle.std.proofs.lemmas.List.{get_or_default}
use Rattle.std.proofs.lemmas.Option.{slice_get-get_or, slice_get_within}
use Rattle.list_lemmas.proofs.Members.{in_from_Contains}
use Rattle.lib_bind.specs.Graph.{AreLibraries, AreLinks, linked}
use Rattle.lib_bind.specs.declared.library.Library.{Library}
use Rattle.lib_bind.specs.inner.Checked.{IsNext, no_library}

-- ---- numbers below one

pub record AreBelow (numbers : List ℕ) (end at : ℕ) : Type 0 where
  pub each : (k : ℕ) → k < at → k < length numbers → get_or numbers k 0 < end

pub below_start : (numbers : List ℕ) (end : ℕ) → AreBelow numbers end 0
below_start numbers end = record { each = λ k low. absurd (omega (arith, low)) }

before_or_last : (k at : ℕ) → k < at + 1 → (k < at) ⊎ (k ≡ at)
before_or_last k at low = grind arith

below_step : (numbers : List ℕ) (end at : ℕ) → AreBelow numbers end at → get_or numbers at 0 < end → (k : ℕ) → (k < at) ⊎ (k ≡ at) → k < length numbers → get_or numbers k 0 < end
below_step numbers end at below last k (inl low) within = below.each k low within
below_step numbers end at below last k (inr is) within = subst (λ (n : ℕ). get_or numbers n 0 < end) (sym is) last

pub below_next : (numbers : List ℕ) (end at : ℕ) → AreBelow numbers end at → get_or numbers at 0 < end → AreBelow numbers end (at + 1)
below_next numbers end at below last = record { each = λ k low within. below_step numbers end at below last k (before_or_last k at low) within }

below_member : (numbers : List ℕ) (end at number : ℕ) → AreBelow numbers end at → length numbers ≤ at → Contains numbers number → number < end
below_member numbers end at number below past (k, low, is) =
    subst (λ (n : ℕ). n < end) (get_or_default numbers k 0 number low ∙ is) (below.each k (omega (arith, low, past)) low)

pub all_below : (numbers : List ℕ) (end at : ℕ) → AreBelow numbers end at → length numbers ≤ at → IsTrue true ↔ ((number : ℕ) → Contains numbers number → number < end)
all_below numbers end at below past = (λ _ number there. below_member numbers end at number below past there, λ _. refl)

pub not_below : (numbers : List ℕ) (end at : ℕ) → at < length numbers → end ≤ get_or numbers at 0 → IsTrue false ↔ ((number : ℕ) → Contains numbers number → number < end)
not_below numbers end at within high = (
  λ h number there. (let e : false ≡ true = h in cc),
  λ below. (let low : get_or numbers at 0 < end = below (get_or numbers at 0) (at, within, sym (get_or_default numbers at 0 (get_or numbers at 0) within)) in absurd (omega (arith, low, high))),
)

-- ---- links

pub record LeadBelow (links : List (List ℕ)) (documents at : ℕ) : Type 0 where
  pub each : (from to : ℕ) → from < at → Contains (linked links from) to → to < documents

pub lead_start : (links : List (List ℕ)) (documents : ℕ) → LeadBelow links documents 0
lead_start links documents = record { each = λ from to low. absurd (omega (arith, low)) }

lead_step : (links : List (List ℕ)) (documents at : ℕ) → LeadBelow links documents at → ((to : ℕ) → Contains (linked links at) to → to < documents) → (from to : ℕ) → (from < at) ⊎ (from ≡ at) → Contains (linked links from) to → to < documents
lead_step links documents at below last from to (inl low) there = below.each from to low there
lead_step links documents at below last from to (inr is) there = last to (subst (λ (d : ℕ). Contains (linked links d) to) is there)

pub lead_next : (links : List (List ℕ)) (documents at : ℕ) → LeadBelow links documents at → ((to : ℕ) → Contains (linked links at) to → to < documents) → LeadBelow links documents (at + 1)
lead_next links documents at below last = record { each = λ from to low there. lead_step links documents at below last from to (before_or_last from at low) there }

lead_past : (links : List (List ℕ)) (documents at from to : ℕ) → LeadBelow links documents at → length links ≤ at → (from < at) ⊎ (at ≤ from) → Contains (linked links from) to → to < documents
lead_past links documents at from to below past (inl low) there = below.each from to low there
lead_past links documents at from to below past (inr high) there =
    let none : linked links from ≡ [] = get_or-eq_default links [] (omega (arith, past, high)) in
    absurd (in_from_Contains [] to (subst (λ (ds : List ℕ). Contains ds to) none there))

below_or_past : (k n : ℕ) → (k < n) ⊎ (n ≤ k)
below_or_past k n = grind arith

pub all_lead : (links : List (List ℕ)) (documents at : ℕ) → length links ≡ documents → LeadBelow links documents at → length links ≤ at → IsTrue true ↔ AreLinks documents links
all_lead links documents at each below past =
    (λ _. record { each = each; within = λ from to there. lead_past links documents at from to below past (below_or_past from at) there }, λ _. refl)

pub not_each : (links : List (List ℕ)) (documents : ℕ) → (length links ≡ documents → ⊥) → IsTrue false ↔ AreLinks documents links
not_each links documents other = (λ h. (let e : false ≡ true = h in cc), λ are. absurd (other are.each))

pub not_led : (links : List (List ℕ)) (documents at : ℕ) → (IsTrue false ↔ ((to : ℕ) → Contains (linked links at) to → to < documents)) → IsTrue false ↔ AreLinks documents links
not_led links documents at other = (λ h. (let e : false ≡ true = h in cc), λ are. other.1 (λ to there. are.within at to there))

-- ---- libraries

pub record AreNext (documents : ℕ) (libraries : List Library) (at : ℕ) : Type 0 where
  pub each : (k : ℕ) → k < at → IsNext documents libraries k

pub next_start : (documents : ℕ) (libraries : List Library) → AreNext documents libraries 0
next_start documents libraries = record { each = λ k low. absurd (omega (arith, low)) }

next_step : (documents : ℕ) (libraries : List Library) (at : ℕ) → AreNext documents libraries at → IsNext documents libraries at → (k : ℕ) → (k < at) ⊎ (k ≡ at) → IsNext documents libraries k
next_step documents libraries at are last k (inl low) = are.each k low
next_step documents libraries at are last k (inr is) = subst (λ (n : ℕ). IsNext documents libraries n) (sym is) last

pub next_more : (documents : ℕ) (libraries : List Library) (at : ℕ) → AreNext documents libraries at → IsNext documents libraries at → AreNext documents libraries (at + 1)
next_more documents libraries at are last = record { each = λ k low. next_step documents libraries at are last k (before_or_last k at low) }

abbrev library_at : List Library → ℕ → Library
library_at libraries at = get_or libraries at no_library

is_at : (libraries : List Library) (at : ℕ) (library : Library) → slice_get libraries at ≡ Some library → library_at libraries at ≡ library
is_at libraries at library is =
    let same : Some (library_at libraries at) ≡ Some library = sym (slice_get-get_or libraries at no_library (slice_get_within libraries at library is)) ∙ is in cc

step_up : (documents : ℕ) (libraries : List Library) (m : ℕ) → IsNext documents libraries (m + 1) → (library_at libraries m).position < (library_at libraries (m + 1)).position
step_up documents libraries m next = by next.rising
  where
    by : (m + 1 ≡ 0) ⊎ ((library_at libraries (m + 1 - 1)).position < (library_at libraries (m + 1)).position) → (library_at libraries m).position < (library_at libraries (m + 1)).position
    by (inl none) = absurd (omega (arith, none))
    by (inr low) = let same : m + 1 - 1 ≡ m = omega arith in subst (λ (k : ℕ). (library_at libraries k).position < (library_at libraries (m + 1)).position) same low

rises_by : (documents : ℕ) (libraries : List Library) (n : ℕ) → AreNext documents libraries n → (i more : ℕ) → i + 1 + more < n → (library_at libraries i).position < (library_at libraries (i + 1 + more)).position
rises_by documents libraries n are i zero low =
    let same : i + 1 + 0 ≡ i + 1 = omega arith in
    subst (λ (k : ℕ). (library_at libraries i).position < (library_at libraries k).position) (sym same) (step_up documents libraries i (are.each (i + 1) (omega (arith, low))))
rises_by documents libraries n are i (suc more) low =
    let same : i + 1 + suc more ≡ i + 1 + more + 1 = omega arith in
    let before : (library_at libraries i).position < (library_at libraries (i + 1 + more)).position = rises_by documents libraries n are i more (omega (arith, low)) in
    let last : (library_at libraries (i + 1 + more)).position < (library_at libraries (i + 1 + more + 1)).position = step_up documents libraries (i + 1 + more) (are.each (i + 1 + more + 1) (omega (arith, low))) in
    let both : (library_at libraries i).position < (library_at libraries (i + 1 + more + 1)).position = omega (arith, before, last) in
    subst (λ (k : ℕ). (library_at libraries i).position < (library_at libraries k).position) (sym same) both

rises : (documents : ℕ) (libraries : List Library) (n i j : ℕ) → AreNext documents libraries n → i < j → j < n → (library_at libraries i).position < (library_at libraries j).position
rises documents libraries n i j are low within =
    let same : i + 1 + (j - (i + 1)) ≡ j = omega (arith, low) in
    subst (λ (k : ℕ). (library_at libraries i).position < (library_at libraries k).position) same
    (rises_by documents libraries n are i (j - (i + 1)) (omega (arith, low, within)))

pub all_next : (documents : ℕ) (libraries : List Library) (at : ℕ) → length libraries ≤ 240 → AreNext documents libraries at → length libraries ≤ at → IsTrue true ↔ AreLibraries documents libraries
all_next documents libraries at few are past = (
  λ _. record {
    within = λ k library is. (let low : k < length libraries = slice_get_within libraries k library is in subst (λ (l : Library). l.document < documents) (is_at libraries k library is) (are.each k (omega (arith, low, past))).within);
    ordinals = λ k library is. (let low : k < length libraries = slice_get_within libraries k library is in sym (ap (λ (l : Library). l.ordinal) (is_at libraries k library is)) ∙ (are.each k (omega (arith, low, past))).ordinal);
    rising = λ i j first second low one other.
        (let within : j < length libraries = slice_get_within libraries j second other in
        subst (λ (l : Library). first.position < l.position) (is_at libraries j second other)
        (subst (λ (l : Library). l.position < (library_at libraries j).position) (is_at libraries i first one) (rises documents libraries at i j are low (omega (arith, within, past)))));
    few = few;
  },
  λ _. refl,
)

pub not_few : (documents : ℕ) (libraries : List Library) → 240 < length libraries → IsTrue false ↔ AreLibraries documents libraries
not_few documents libraries many = (λ h. (let e : false ≡ true = h in cc), λ are. (let few : length libraries ≤ 240 = are.few in absurd (omega (arith, few, many))))

zero_or_more : (at : ℕ) → (at ≡ 0) ⊎ (0 < at)
zero_or_more at = grind arith

rising_at : (documents : ℕ) (libraries : List Library) (at : ℕ) → AreLibraries documents libraries → at < length libraries → (at ≡ 0) ⊎ (0 < at) → (at ≡ 0) ⊎ ((library_at libraries (at - 1)).position < (library_at libraries at).position)
rising_at documents libraries at are within (inl none) = inl none
rising_at documents libraries at are within (inr some) =
    inr (are.rising (at - 1) at (library_at libraries (at - 1)) (library_at libraries at) (omega (arith, some)) (slice_get-get_or libraries (at - 1) no_library (omega (arith, some, within))) (slice_get-get_or libraries at no_library within))

next_at : (documents : ℕ) (libraries : List Library) (at : ℕ) → AreLibraries documents libraries → at < length libraries → IsNext documents libraries at
next_at documents libraries at are within = record {
  within = are.within at (library_at libraries at) (slice_get-get_or libraries at no_library within);
  ordinal = are.ordinals at (library_at libraries at) (slice_get-get_or libraries at no_library within);
  rising = rising_at documents libraries at are within (zero_or_more at);
}

pub not_next : (documents : ℕ) (libraries : List Library) (at : ℕ) → at < length libraries → (IsTrue false ↔ IsNext documents libraries at) → IsTrue false ↔ AreLibraries documents libraries
not_next documents libraries at within other = (λ h. (let e : false ≡ true = h in cc), λ are. other.1 (next_at documents libraries at are within))

-- ---- the links of a document

pub led_by : (links : List (List ℕ)) (documents at : ℕ) (listed read : List ℕ) (b : Bool) → at < length links → listed ≡ get_or links at listed → read ≡ listed
    → (IsTrue b ↔ ((number : ℕ) → Contains read number → number < documents)) → IsTrue b ↔ ((to : ℕ) → Contains (linked links at) to → to < documents)
led_by links documents at listed read b within is same below =
    subst (λ (ds : List ℕ). IsTrue b ↔ ((to : ℕ) → Contains ds to → to < documents)) (same ∙ is ∙ get_or_default links at listed [] within) below

pub led : (links : List (List ℕ)) (documents at : ℕ) (b : Bool) → b ≡ true → (IsTrue b ↔ ((to : ℕ) → Contains (linked links at) to → to < documents)) → (to : ℕ) → Contains (linked links at) to → to < documents
led links documents at b is below = below.0 is

pub not_led_by : (links : List (List ℕ)) (documents at : ℕ) (b : Bool) → b ≡ false → (IsTrue b ↔ ((to : ℕ) → Contains (linked links at) to → to < documents)) → IsTrue false ↔ AreLinks documents links
not_led_by links documents at b is below = not_led links documents at (subst (λ (v : Bool). IsTrue v ↔ ((to : ℕ) → Contains (linked links at) to → to < documents)) is below)
