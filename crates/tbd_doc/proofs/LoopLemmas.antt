-- Loops over the places of nodes.
use Rattle.std.proofs.Common.{◌≡◌, ℕ, ◌+◌, ◌<◌, ◌≤◌, List, [], ◌∷◌, Option, Some, Bool, true, false, length, get_or, drop, map, refl, sym, ap, ◌∙◌}
use Rattle.std.specs.Prelude.{◌&&◌, ◌||◌}
use Rattle.std.specs.List.{list_all, list_any, filter_map}
use Rattle.std.proofs.lemmas.List.{drop_all, drop_more}
use Rattle.tbd_yaml.specs.Tree.{Tree, scalar, list, map as map_of}
use Rattle.std.specs.Option.{option_map}
use Rattle.tbd_doc.specs.Forms.{is_list, are_all}
use Rattle.tbd_doc.specs.Nodes.{text_of, texts_under, items_of}
use Rattle.tbd_doc.specs.inner.Texts.{text_passes}

-- Whether all elements pass a test.

pub record IsPassing (test : ℕ → Bool) (xs : List ℕ) (at : ℕ) : Type 0 where
  pub same : list_all test (drop at xs) ≡ list_all test xs

pub pass_starts : (test : ℕ → Bool) (xs : List ℕ) → IsPassing test xs 0
pass_starts test xs = record { same = refl }

pub pass_goes_on : (test : ℕ → Bool) (xs : List ℕ) (at : ℕ) → IsPassing test xs at → at < length xs → test (get_or xs at 0) ≡ true → IsPassing test xs (at + 1)
pass_goes_on test xs at passing within passes =
    let here : list_all test (get_or xs at 0 ∷ drop (at + 1) xs) ≡ list_all test (drop (at + 1) xs) = rw passes refl in
    record { same = sym (ap (list_all test) (drop_more xs at 0 within) ∙ here) ∙ passing.same }

pub pass_fails : (test : ℕ → Bool) (xs : List ℕ) (at : ℕ) → IsPassing test xs at → at < length xs → test (get_or xs at 0) ≡ false → false ≡ list_all test xs
pass_fails test xs at passing within fails =
    let here : list_all test (get_or xs at 0 ∷ drop (at + 1) xs) ≡ false = rw fails refl in
    sym (ap (list_all test) (drop_more xs at 0 within) ∙ here) ∙ passing.same

pub pass_ends : (test : ℕ → Bool) (xs : List ℕ) (at : ℕ) → IsPassing test xs at → length xs ≤ at → true ≡ list_all test xs
pass_ends test xs at passing past = sym (ap (list_all test) (drop_all at xs past)) ∙ passing.same

-- Whether an element passes a test.

pub record IsMissing (test : ℕ → Bool) (xs : List ℕ) (at : ℕ) : Type 0 where
  pub same : list_any test (drop at xs) ≡ list_any test xs

pub miss_starts : (test : ℕ → Bool) (xs : List ℕ) → IsMissing test xs 0
miss_starts test xs = record { same = refl }

pub miss_goes_on : (test : ℕ → Bool) (xs : List ℕ) (at : ℕ) → IsMissing test xs at → at < length xs → test (get_or xs at 0) ≡ false → IsMissing test xs (at + 1)
miss_goes_on test xs at missing within fails =
    let here : list_any test (get_or xs at 0 ∷ drop (at + 1) xs) ≡ list_any test (drop (at + 1) xs) = rw fails refl in
    record { same = sym (ap (list_any test) (drop_more xs at 0 within) ∙ here) ∙ missing.same }

pub miss_finds : (test : ℕ → Bool) (xs : List ℕ) (at : ℕ) → IsMissing test xs at → at < length xs → test (get_or xs at 0) ≡ true → true ≡ list_any test xs
miss_finds test xs at missing within passes =
    let here : list_any test (get_or xs at 0 ∷ drop (at + 1) xs) ≡ true = rw passes refl in
    sym (ap (list_any test) (drop_more xs at 0 within) ∙ here) ∙ missing.same

pub miss_ends : (test : ℕ → Bool) (xs : List ℕ) (at : ℕ) → IsMissing test xs at → length xs ≤ at → false ≡ list_any test xs
miss_ends test xs at missing past = sym (ap (list_any test) (drop_all at xs past)) ∙ missing.same

pub ruleset loops = (pass_starts, pass_goes_on, pass_fails, pass_ends, miss_starts, miss_goes_on, miss_finds, miss_ends)

-- Tests of places and of the nodes there.

pub all_there : (node : ℕ → Tree) (test : Tree → Bool) (xs : List ℕ) → list_all (λ x. test (node x)) xs ≡ list_all test (map node xs)
all_there node test [] = refl
all_there node test (x ∷ xs) = ap (λ b. test (node x) && b) (all_there node test xs)

pub any_text_there : (node : ℕ → Tree) (test : List ℕ → Bool) (xs : List ℕ) → list_any (λ x. text_passes test (node x)) xs ≡ list_any test (filter_map text_of (map node xs))
any_text_there node test [] = refl
any_text_there node test (x ∷ xs) = step (node x) (map node xs) (list_any (λ x. text_passes test (node x)) xs) (any_text_there node test xs)
  where
    step : (t : Tree) (others : List Tree) (rest : Bool) → rest ≡ list_any test (filter_map text_of others) → (text_passes test t || rest) ≡ list_any test (filter_map text_of (t ∷ others))
    step (scalar text) others rest e = ap (λ b. test text || b) e
    step (list items) others rest e = e
    step (map_of pairs) others rest e = e

-- The value of a key.

pub all_test : (node : ℕ → Tree) (test : Tree → Bool) (value : Option ℕ) (at : ℕ) (places seen : List ℕ) (result : Bool) → value ≡ Some at → is_list (node at) ≡ true → map node places ≡ items_of (node at) → seen ≡ places
    → result ≡ list_all (λ place. test (node place)) seen → result ≡ are_all test (option_map node value)
all_test node test value at places seen result is here items same all =
    let whole : result ≡ list_all test (items_of (node at)) =
    all ∙ all_there node test seen ∙ ap (λ xs. list_all test (map node xs)) same ∙ ap (list_all test) items in
    rw (is, here) whole

pub any_test : (node : ℕ → Tree) (test : List ℕ → Bool) (value : Option ℕ) (at : ℕ) (places seen : List ℕ) (result : Bool) → value ≡ Some at → map node places ≡ items_of (node at) → seen ≡ places
    → result ≡ list_any (λ place. text_passes test (node place)) seen → result ≡ list_any test (texts_under (option_map node value))
any_test node test value at places seen result is items same any =
    rw is (any ∙ any_text_there node test seen ∙ ap (λ xs. list_any test (filter_map text_of (map node xs))) same ∙ ap (λ ts. list_any test (filter_map text_of ts)) items)
