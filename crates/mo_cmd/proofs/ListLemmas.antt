-- What each part gives, in order.
use Rattle.std.proofs.Common.{◌≡◌, ℕ, ◌+◌, ◌<◌, ◌≤◌, ◌++◌, ◌∷◌, [], List, length, take, get_or, map, sym, ap, ◌∙◌}
use Rattle.std.proofs.lemmas.List.{take_all, take_more}
use Rattle.std.proofs.lemmas.List.{map-append}

-- the values of the elements before one
pub record IsListing {A B : Type 0} (f : A → B) (xs : List A) (at : ℕ) (made : List B) : Type 0 where
  pub same : made ≡ map f (take at xs)

pub list_starts : {A B : Type 0} (f : A → B) (xs : List A) (made : List B) → made ≡ [] → IsListing f xs 0 made
list_starts f xs made empty = record { same = empty }

pub list_goes_on : {A B : Type 0} (f : A → B) (xs : List A) (at : ℕ) (made more : List B) (x : A) (y : B) → IsListing f xs at made → at < length xs → x ≡ get_or xs at x → y ≡ f x → more ≡ made ++ y ∷ [] → IsListing f xs (at + 1) more
list_goes_on f xs at made more x y listing within is value pushed =
    let front : take (at + 1) xs ≡ take at xs ++ x ∷ [] = take_more xs at x within ∙ ap (λ z. take at xs ++ z ∷ []) (sym is) in
    record { same = pushed ∙ ap (λ z. made ++ z ∷ []) value ∙ ap (λ ys. ys ++ f x ∷ []) listing.same ∙ sym (ap (map f) front ∙ map-append f (take at xs) (x ∷ [])) }

pub list_ends : {A B : Type 0} (f : A → B) (xs : List A) (at : ℕ) (made : List B) → IsListing f xs at made → length xs ≤ at → made ≡ map f xs
list_ends f xs at made listing past = listing.same ∙ ap (map f) (take_all at xs past)

pub ruleset lists = (list_starts, list_goes_on, list_ends)
