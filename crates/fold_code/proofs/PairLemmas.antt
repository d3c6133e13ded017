-- Lists that are compared place by place.
use Rattle.std.proofs.Common.{◌≡◌, ℕ, ◌+◌, ◌<◌, ◌≤◌, ◌≢◌, Bool, true, false, List, [], ◌∷◌, length, drop, get_or, refl, sym, ap, ◌∙◌, arith}
use Rattle.std.specs.Cmp.Lexicographic.{pointwise}
use Rattle.std.proofs.lemmas.Bool.{and_parts}
use Rattle.std.proofs.lemmas.List.{drop_all, drop_more}

as_long : {X : Type 0} (E : X → X → Bool) (xs ys : List X) → pointwise E xs ys ≡ true → length xs ≡ length ys
as_long E [] [] e = refl
as_long E [] (y ∷ ys) e = cc
as_long E (x ∷ xs) [] e = cc
as_long E (x ∷ xs) (y ∷ ys) e = let rest : length xs ≡ length ys = as_long E xs ys (and_parts (E x y) (pointwise E xs ys) e).1 in omega arith

pub other_lengths : {X : Type 0} (E : X → X → Bool) (xs ys : List X) → length xs ≢ length ys → false ≡ pointwise E xs ys
other_lengths E xs ys apart = by (pointwise E xs ys) refl
  where
    by : (b : Bool) → pointwise E xs ys ≡ b → false ≡ b
    by true e = absurd (apart (as_long E xs ys e))
    by false e = refl

pub pairs_more : {X : Type 0} (E : X → X → Bool) (xs ys : List X) (i : ℕ) (x y d e : X) (b : Bool) → pointwise E (drop i xs) (drop i ys) ≡ b → i < length xs → i < length ys
    → x ≡ get_or xs i d → y ≡ get_or ys i e → E x y ≡ true → pointwise E (drop (i + 1) xs) (drop (i + 1) ys) ≡ b
pairs_more E xs ys i x y d e b same low high is be here =
    let a : drop i xs ≡ x ∷ drop (i + 1) xs = drop_more xs i d low ∙ ap (λ z. z ∷ drop (i + 1) xs) (sym is) in
    let c : drop i ys ≡ y ∷ drop (i + 1) ys = drop_more ys i e high ∙ ap (λ z. z ∷ drop (i + 1) ys) (sym be) in
    rw here at (rw (a, c) at same)

pub pairs_end : {X : Type 0} (E : X → X → Bool) (xs ys : List X) (i : ℕ) (x y d e : X) (b : Bool) → pointwise E (drop i xs) (drop i ys) ≡ b → i < length xs → i < length ys
    → x ≡ get_or xs i d → y ≡ get_or ys i e → E x y ≡ false → false ≡ b
pairs_end E xs ys i x y d e b same low high is be here =
    let a : drop i xs ≡ x ∷ drop (i + 1) xs = drop_more xs i d low ∙ ap (λ z. z ∷ drop (i + 1) xs) (sym is) in
    let c : drop i ys ≡ y ∷ drop (i + 1) ys = drop_more ys i e high ∙ ap (λ z. z ∷ drop (i + 1) ys) (sym be) in
    rw here at (rw (a, c) at same)

pub pairs_all : {X : Type 0} (E : X → X → Bool) (xs ys : List X) (i : ℕ) (b : Bool) → pointwise E (drop i xs) (drop i ys) ≡ b → length xs ≤ i → length xs ≡ length ys → true ≡ b
pairs_all E xs ys i b same past long = rw (drop_all i xs past, drop_all i ys (omega arith)) at same
