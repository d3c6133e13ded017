-- A loop that looks for the first element for which a function answers something.
use Rattle.std.proofs.Common.{◌≡◌, ℕ, ◌+◌, ◌<◌, ◌≤◌, List, ◌∷◌, length, drop, get_or, Option, Some, None, refl, sym, ap, ◌∙◌, add-one, drop-cons}
use Rattle.std.proofs.lemmas.List.{drop_all}
use Rattle.mo_types.specs.Scan.{option_or_else, first_some}

-- nothing was answered for the elements below a place
pub record IsScanning {A B : Type 0} (f : A → Option B) (xs : List A) (at : ℕ) : Type 0 where
  pub same : first_some f (drop at xs) ≡ first_some f xs

pub scan_starts : {A B : Type 0} (f : A → Option B) (xs : List A) → IsScanning f xs 0
scan_starts f xs = record { same = refl }

from_element : {A B : Type 0} (f : A → Option B) (xs : List A) (at : ℕ) (x : A) → at < length xs → x ≡ get_or xs at x → first_some f (drop at xs) ≡ option_or_else (f x) (first_some f (drop (at + 1) xs))
from_element f xs at x within is =
    let e : drop at xs ≡ x ∷ drop (at + 1) xs = rw (drop-cons xs at x, ← is, add-one) refl in
    ap (first_some f) e

pub scan_goes_on : {A B : Type 0} (f : A → Option B) (xs : List A) (at : ℕ) (x : A) → IsScanning f xs at → at < length xs → x ≡ get_or xs at x → f x ≡ None → IsScanning f xs (at + 1)
scan_goes_on f xs at x scanning within is none =
    record { same = sym (from_element f xs at x within is ∙ ap (λ y. option_or_else y (first_some f (drop (at + 1) xs))) none) ∙ scanning.same }

pub scan_finds : {A B : Type 0} (f : A → Option B) (xs : List A) (at : ℕ) (x : A) (y : B) → IsScanning f xs at → at < length xs → x ≡ get_or xs at x → f x ≡ Some y → Some y ≡ first_some f xs
scan_finds f xs at x y scanning within is found =
    sym (from_element f xs at x within is ∙ ap (λ z. option_or_else z (first_some f (drop (at + 1) xs))) found) ∙ scanning.same

pub scan_ends : {A B : Type 0} (f : A → Option B) (xs : List A) (at : ℕ) → IsScanning f xs at → length xs ≤ at → None ≡ first_some f xs
scan_ends f xs at scanning past = sym (ap (first_some f) (drop_all at xs past)) ∙ scanning.same

pub ruleset scans = (scan_starts, scan_goes_on, scan_finds, scan_ends)
