-- Loops that make a list of what each place of a range, or each element of a list, becomes.
use Rattle.std.proofs.Common.{◌≡◌, ℕ, zero, suc, ◌+◌, ◌-◌, ◌<◌, ◌≤◌, ◌||◌, Bool, true, false, List, [], ◌∷◌, ◌++◌, length, take, get_or, refl, sym, ap, ◌∙◌, arith, add-zero}
use Rattle.std.proofs.Math.Nat.{sub-zero}
use Rattle.std.proofs.lemmas.List.{length-map, map_more, take_all}
use Rattle.std.proofs.lemmas.List.Elements.{All-push}
use Rattle.std.proofs.lemmas.List.FromFn.{length-map-range_with_len}
use Rattle.std.specs.Prelude.{map}
use Rattle.std.specs.List.{list_any, range_with_len}
use Rattle.mo_obj.specs.Each.{Each}

-- `front` has what the places below `at` become
pub record IsMapped {B : Type 0} (f : ℕ → B) (at : ℕ) (front : List B) : Type 0 where
  pub same : front ≡ map f (range_with_len 0 at)

one_more : {B : Type 0} (f : ℕ → B) (from n : ℕ) → map f (range_with_len from (n + 1)) ≡ map f (range_with_len from n) ++ f (from + n) ∷ []
one_more f from zero = rw add-zero refl
one_more f from (suc n) =
    let there : from + 1 + n ≡ from + suc n = omega arith in
    let more : suc n + 1 ≡ suc (n + 1) = omega arith in
    rw more (ap (λ ys. f from ∷ ys) (one_more f (from + 1) n ∙ ap (λ k. map f (range_with_len (from + 1) n) ++ f k ∷ []) there))

pub mapping_starts : {B : Type 0} (f : ℕ → B) → IsMapped f 0 []
mapping_starts f = record { same = refl }

pub mapping_goes_on : {B : Type 0} (f : ℕ → B) (at : ℕ) (front : List B) (y : B) → IsMapped f at front → y ≡ f at → IsMapped f (at + 1) (front ++ y ∷ [])
mapping_goes_on f at front y mapped is =
    let here : 0 + at ≡ at = omega arith in
    record { same = rw (mapped.same, is) (ap (λ k. map f (range_with_len 0 at) ++ f k ∷ []) (sym here) ∙ sym (one_more f 0 at)) }

pub mapping_ends : {B : Type 0} (f : ℕ → B) (n at : ℕ) (front : List B) → IsMapped f at front → at ≡ n → front ≡ map f (range_with_len 0 n)
mapping_ends f n at front mapped e = mapped.same ∙ ap (λ k. map f (range_with_len 0 k)) e

pub mapped_length : {B : Type 0} (f : ℕ → B) (n at : ℕ) (front : List B) → IsMapped f at front → at ≡ n → length front ≡ n
mapped_length f n at front mapped e = rw mapped.same (length-map-range_with_len f 0 at ∙ e)

pub ruleset mappings = (mapping_starts, mapping_goes_on, mapping_ends, mapped_length)

-- `front` has what the first elements of a list become
pub record IsTaken {A B : Type 0} (f : A → B) (xs : List A) (at : ℕ) (front : List B) : Type 0 where
  pub same : front ≡ map f (take at xs)

pub taking_starts : {A B : Type 0} (f : A → B) (xs : List A) → IsTaken f xs 0 []
taking_starts f xs = record { same = refl }

pub taking_goes_on : {A B : Type 0} (f : A → B) (xs : List A) (at : ℕ) (front : List B) (x : A) (y : B) → IsTaken f xs at front → at < length xs → x ≡ get_or xs at x → y ≡ f x → IsTaken f xs (at + 1) (front ++ y ∷ [])
taking_goes_on f xs at front x y taken within here is =
    record { same = rw (taken.same, is) (ap (λ z. map f (take at xs) ++ f z ∷ []) here ∙ sym (map_more f xs at x within)) }

pub taking_ends : {A B : Type 0} (f : A → B) (xs : List A) (at : ℕ) (front : List B) → IsTaken f xs at front → length xs ≤ at → front ≡ map f xs
taking_ends f xs at front taken past = taken.same ∙ ap (map f) (take_all at xs past)

pub taken_length : {A B : Type 0} (f : A → B) (xs : List A) (at : ℕ) (front : List B) → IsTaken f xs at front → length xs ≤ at → length front ≡ length xs
taken_length f xs at front taken past = rw (taking_ends f xs at front taken past) (rw length-map refl)

pub none_of_each : {A : Type 0} (P : A → Type 0) → Each P []
none_of_each P = record { all = λ k d within. absurd (omega arith) }

pub one_more_of_each : {A : Type 0} (P : A → Type 0) (xs : List A) (x : A) (longer : List A) → longer ≡ xs ++ x ∷ [] → Each P xs → P x → Each P longer
one_more_of_each P xs x longer is each here = record { all = rw is (All-push P xs x each.all here) }

pub ruleset takings = (taking_starts, taking_goes_on, taking_ends, taken_length)

pub ruleset each = (none_of_each, one_more_of_each)

-- no place of a range below `at` passed
pub record IsSearching (test : ℕ → Bool) (n at : ℕ) : Type 0 where
  pub same : list_any test (range_with_len at (n - at)) ≡ list_any test (range_with_len 0 n)

pub search_starts : (test : ℕ → Bool) (n : ℕ) → IsSearching test n 0
search_starts test n = record { same = rw sub-zero refl }

from_here : (test : ℕ → Bool) (n at : ℕ) → at < n → list_any test (range_with_len at (n - at)) ≡ (test at || list_any test (range_with_len (at + 1) (n - (at + 1))))
from_here test n at within =
    let e : n - at ≡ suc (n - (at + 1)) = omega arith in
    rw e refl

pub search_goes_on : (test : ℕ → Bool) (n at : ℕ) → IsSearching test n at → at < n → false ≡ test at → IsSearching test n (at + 1)
search_goes_on test n at searching within fails =
    let rest : list_any test (range_with_len at (n - at)) ≡ list_any test (range_with_len (at + 1) (n - (at + 1))) =
    from_here test n at within ∙ ap (λ b. b || list_any test (range_with_len (at + 1) (n - (at + 1)))) (sym fails) in
    record { same = sym rest ∙ searching.same }

pub search_finds : (test : ℕ → Bool) (n at : ℕ) → IsSearching test n at → at < n → true ≡ test at → true ≡ list_any test (range_with_len 0 n)
search_finds test n at searching within passes =
    let found : list_any test (range_with_len at (n - at)) ≡ true =
    from_here test n at within ∙ ap (λ b. b || list_any test (range_with_len (at + 1) (n - (at + 1)))) (sym passes) in
    sym found ∙ searching.same

pub search_ends : (test : ℕ → Bool) (n at : ℕ) → IsSearching test n at → n ≤ at → false ≡ list_any test (range_with_len 0 n)
search_ends test n at searching past =
    let e : n - at ≡ 0 = omega arith in
    sym (ap (λ k. list_any test (range_with_len at k)) e) ∙ searching.same

pub ruleset searches = (search_starts, search_goes_on, search_finds, search_ends)
