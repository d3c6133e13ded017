-- Lists that rise in a total order: their elements, and that their members make them up.
use Rattle.std.proofs.Common.{◌≡◌, ◌≢◌, ℕ, zero, suc, ◌+◌, ◌<◌, ◌⊎◌, List, [], ◌∷◌, length, get_or, map, refl, sym, ap, subst, ◌∙◌, inl, inr, arith}
use Rattle.std.specs.List.{AllByRecursion}
use Rattle.std.specs.List.Sorted.{IsStrictlySortedBy, IsSortedBy}
use Rattle.std.specs.declared.cmp.Ordering.{Ordering}
use Rattle.std.specs.declared.cmp.Ordering.TheVariants.{Less, Greater}
use Rattle.std.specs.Ordering.{on, is_lt, ordering_reverse}
use Rattle.std.specs.Cmp.{IsTotalOrder}
use Rattle.std.proofs.lemmas.Cmp.{tied_itself}
use Rattle.list_lemmas.proofs.Members.{In, all_in, all_at, all_map}

pub rising_map : {X K : Type 0} (f : X → K) (R : K → K → Ordering) (xs : List X) → IsStrictlySortedBy (on f R) xs → IsStrictlySortedBy R (map f xs)
unfolding IsStrictlySortedBy
rising_map f R [] h = tt
rising_map f R (x ∷ xs) h = (all_map f (λ y. R (f x) y ≡ Less) xs h.0, rising_map f R xs h.1)

-- an element is below each later one
pub rising_at : {K : Type 0} (R : K → K → Ordering) (xs : List K) (i j : ℕ) (d : K) → IsStrictlySortedBy R xs → i < j → j < length xs → R (get_or xs i d) (get_or xs j d) ≡ Less
unfolding IsStrictlySortedBy
rising_at R [] i j d h low high = absurd (omega arith)
rising_at R (x ∷ xs) zero zero d h low high = absurd (omega arith)
rising_at R (x ∷ xs) zero (suc j) d h low high = all_at (λ y. R x y ≡ Less) xs j d h.0 (omega arith)
rising_at R (x ∷ xs) (suc i) zero d h low high = absurd (omega arith)
rising_at R (x ∷ xs) (suc i) (suc j) d h low high = rising_at R xs i j d h.1 (omega arith) (omega arith)

not_below : {K : Type 0} {R : K → K → Ordering} (o : IsTotalOrder R) (x y : K) → R x y ≡ Less → R y x ≡ Greater
not_below {R = R} o x y e = o.antisymm y x ∙ ap ordering_reverse e

pub sorted_from_rising : {K : Type 0} {R : K → K → Ordering} (o : IsTotalOrder R) (xs : List K) → IsStrictlySortedBy R xs → IsSortedBy (λ a b. is_lt (R a b)) xs
sorted_from_rising {R = R} o xs h = λ k d low high.
    ap is_lt (not_below o (get_or xs k d) (get_or xs (k + 1) d) (rising_at R xs k (k + 1) d h (omega arith) high))

-- no element stands twice
pub rising_apart : {K : Type 0} {R : K → K → Ordering} (o : IsTotalOrder R) (xs : List K) (i j : ℕ) (d : K) → IsStrictlySortedBy R xs → i < j → j < length xs → get_or xs i d ≢ get_or xs j d
rising_apart {R = R} o xs i j d h low high = λ e.
    let less : R (get_or xs j d) (get_or xs j d) ≡ Less = subst (λ x. R x (get_or xs j d) ≡ Less) e (rising_at R xs i j d h low high) in
    let equal = tied_itself o (get_or xs j d) in
    cc

irreflexive : {K : Type 0} {R : K → K → Ordering} (o : IsTotalOrder R) (x : K) → R x x ≡ Less → ⊥
irreflexive o x less = let equal = tied_itself o x in cc

asymmetric : {K : Type 0} {R : K → K → Ordering} (o : IsTotalOrder R) (x y : K) → R x y ≡ Less → R y x ≡ Less → ⊥
asymmetric o x y less back = let greater = not_below o x y less in cc

heads : {K : Type 0} {R : K → K → Ordering} (o : IsTotalOrder R) (x y : K) (xs ys : List K) → AllByRecursion (λ z. R x z ≡ Less) xs → AllByRecursion (λ z. R y z ≡ Less) ys → (y ≡ x) ⊎ In x ys → (x ≡ y) ⊎ In y xs → x ≡ y
heads o x y xs ys p q (inl e) other = sym e
heads o x y xs ys p q (inr h) (inl e) = e
heads {R = R} o x y xs ys p q (inr h) (inr i) = absurd (asymmetric o x y (all_in (λ z. R x z ≡ Less) xs y p i) (all_in (λ z. R y z ≡ Less) ys x q h))

tail : {K : Type 0} (z : K) (zs : List K) (t : K) → (z ≡ t) ⊎ In t zs → (z ≡ t → ⊥) → In t zs
tail z zs t (inl e) apart = absurd (apart e)
tail z zs t (inr h) apart = h

-- lists that rise and have the same members are one list
pub rising_same : {K : Type 0} {R : K → K → Ordering} (o : IsTotalOrder R) (xs ys : List K) → IsStrictlySortedBy R xs → IsStrictlySortedBy R ys → ((t : K) → In t xs → In t ys) → ((t : K) → In t ys → In t xs) → xs ≡ ys
unfolding IsStrictlySortedBy
rising_same o [] [] p q there back = refl
rising_same o [] (y ∷ ys) p q there back = absurd (back y (inl refl))
rising_same o (x ∷ xs) [] p q there back = absurd (there x (inl refl))
rising_same {K = K} {R = R} o (x ∷ xs) (y ∷ ys) p q there back =
    let same : x ≡ y = heads o x y xs ys p.0 q.0 (there x (inl refl)) (back y (inl refl)) in
    let rest : xs ≡ ys = rising_same o xs ys p.1 q.1
    (λ t h. tail y ys t (there t (inr h)) (λ e. irreflexive o t (subst (λ (s : K). R s t ≡ Less) (same ∙ e) (all_in (λ z. R x z ≡ Less) xs t p.0 h))))
    (λ t h. tail x xs t (back t (inr h)) (λ e. irreflexive o t (subst (λ (s : K). R s t ≡ Less) (sym same ∙ e) (all_in (λ z. R y z ≡ Less) ys t q.0 h)))) in
    rw (same, rest) refl
