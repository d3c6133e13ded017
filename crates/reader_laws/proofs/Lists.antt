-- What holds of each element of a list where a search finds none.
use Rattle.std.proofs.Common.{◌≡◌, refl, ◌≢◌, ℕ, ◌==◌, List, [], ◌∷◌, Bool, false, Option, Some, None, All, slice_get, subst}
use Rattle.std.specs.List.{list_any}
use Rattle.std.proofs.lemmas.Bool.{eqb-false, or_parts}
use Rattle.std.proofs.lemmas.List.Elements.{All-cons, All-nil, All-weaker}
use Rattle.std.proofs.lemmas.Option.{get_or_from_slice_get, slice_get_within}
use Rattle.mo_types.specs.Scan.{first_some, option_or_else}
use Rattle.reader_laws.specs.Facts.{HasNoNul}

-- no element passes the test
pub none_passes : {X : Type 0} (test : X → Bool) (xs : List X) → list_any test xs ≡ false → All (λ x. test x ≡ false) xs
none_passes test [] none = All-nil (λ x. test x ≡ false)
none_passes test (x ∷ xs) none =
    let parts : (test x ≡ false) × (list_any test xs ≡ false) = or_parts (test x) (list_any test xs) none in
    All-cons (λ y. test y ≡ false) x xs parts.0 (none_passes test xs parts.1)

neither : {Y : Type 0} (first rest : Option Y) → option_or_else first rest ≡ None → (first ≡ None) × (rest ≡ None)
neither None rest none = (refl, none)
neither (Some y) rest none = absurd cc

-- no element has an answer
pub none_answers : {X Y : Type 0} (f : X → Option Y) (xs : List X) → first_some f xs ≡ None → All (λ x. f x ≡ None) xs
none_answers f [] none = All-nil (λ x. f x ≡ None)
none_answers f (x ∷ xs) none =
    let parts : (f x ≡ None) × (first_some f xs ≡ None) = neither (f x) (first_some f xs) none in
    All-cons (λ y. f y ≡ None) x xs parts.0 (none_answers f xs parts.1)

-- what holds of each element holds of the one at a place
pub all_there : {X : Type 0} (P : X → Type 0) (xs : List X) (at : ℕ) (x : X) → All P xs → slice_get xs at ≡ Some x → P x
all_there P xs at x all there = subst P (get_or_from_slice_get xs at x x there) (all at x (slice_get_within xs at x there))

-- a name in which a search for a NUL finds none
pub no_nul_found : (name : List ℕ) → list_any (λ b. b == 0) name ≡ false → HasNoNul name
no_nul_found name none = All-weaker (λ b. (b == 0) ≡ false) (λ b. b ≢ 0) (λ b is. eqb-false b 0 is) name (none_passes (λ b. b == 0) name none)
