-- What is drawn from things that have a key each is known by that key.
use Rattle.std.proofs.Common.{◌≡◌, ◌≢◌, ℕ, ◌<◌, ◌≤◌, ◌⊎◌, List, get_or, sym, ap, subst, ◌∙◌, inl, inr, arith, Option, Some}
use Rattle.std.specs.List.{AllPairs, Contains, filter_map}
use Rattle.std.proofs.lemmas.Bool.{cases_lt}
use Rattle.std.proofs.lemmas.List.{get_or_default}
use Rattle.list_lemmas.proofs.Members.{Contains_from_in, from_filter_map, in_from_Contains}

one_of_key : {X K : Type 0} (key : X → K) (xs : List X) → AllPairs (λ a b. key a ≢ key b) xs → (a b : X) → Contains xs a → Contains xs b → key a ≡ key b → a ≡ b
one_of_key {X = X} key xs apart a b p q same = by (cases_lt p.0 q.0) (cases_lt q.0 p.0)
  where
    by : (p.0 < q.0) ⊎ (q.0 ≤ p.0) → (q.0 < p.0) ⊎ (p.0 ≤ q.0) → a ≡ b
    by (inl less) other =
        absurd (apart p.0 q.0 a less q.1 (ap key p.2 ∙ same ∙ sym (ap key (get_or_default xs q.0 a b q.1 ∙ q.2))))
    by (inr not_less) (inl less) =
        absurd (apart q.0 p.0 b less p.1 (ap key q.2 ∙ sym same ∙ sym (ap key (get_or_default xs p.0 b a p.1 ∙ p.2))))
    by (inr not_less) (inr not_more) =
        let place : q.0 ≡ p.0 = omega (arith, not_less, not_more) in
        let second : get_or xs p.0 b ≡ b = subst (λ (k : ℕ). get_or xs k b ≡ b) place q.2 in
        sym p.2 ∙ get_or_default xs p.0 a b p.1 ∙ second

pub drawn_one : {X Y K : Type 0} (f : X → Option Y) (key : X → K) (told : Y → K) → ((x : X) (y : Y) → f x ≡ Some y → told y ≡ key x) → (xs : List X) → AllPairs (λ a b. key a ≢ key b) xs → (y z : Y) → Contains (filter_map f xs) y → Contains (filter_map f xs) z → told y ≡ told z → y ≡ z
drawn_one f key told of xs apart y z p q same =
    let a = from_filter_map f xs y (in_from_Contains (filter_map f xs) y p) in
    let b = from_filter_map f xs z (in_from_Contains (filter_map f xs) z q) in
    let one : a.0 ≡ b.0 = one_of_key key xs apart a.0 b.0 (Contains_from_in xs a.0 a.1) (Contains_from_in xs b.0 b.1) (sym (of a.0 y a.2) ∙ same ∙ of b.0 z b.2) in
    let both : Some y ≡ Some z = sym a.2 ∙ ap f one ∙ b.2 in
    cc
