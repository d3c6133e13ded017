-- A list has one order by which it is sorted, where what ties is the same.
use Rattle.std.proofs.Common.{◌≡◌, ℕ, suc, ◌+◌, false, List, [], ◌∷◌, get_or, refl, sym, ap, subst, ◌∙◌, arith, if◌then◌else◌}
use Rattle.std.specs.List.{Contains, sum_by}
use Rattle.std.specs.List.Sorted.{IsPermutation, IsSorted}
use Rattle.std.specs.Ordering.{is_eq, is_lt, ordering_reverse}
use Rattle.std.specs.declared.cmp.Ordering.{Ordering}
use Rattle.std.specs.declared.cmp.Ordering.TheVariants.{Less, Equal, Greater}
use Rattle.std.specs.Cmp.{IsTotalOrder}
use Rattle.std.proofs.lemmas.Cmp.{alike_right, tied_itself}
use Rattle.std.proofs.lemmas.List.Sorted.{Contains-permutation, IsPermutation-sym, sum_by-IsPermutation}
use Rattle.std.proofs.lemmas.List.Sums.{sum_by-cons}

-- how many of a list tie with an element
abbrev tied : {X : Type 0} → (X → X → Ordering) → X → X → ℕ
tied R k x = if is_eq (R k x) then 1 else 0

abbrev ties : {X : Type 0} → (X → X → Ordering) → X → List X → ℕ
ties R k xs = sum_by (tied R k) xs

tail_sorted : {X : Type 0} (R : X → X → Ordering) (x : X) (xs : List X) → IsSorted R (x ∷ xs) → IsSorted R xs
tail_sorted R x xs up = λ k d low high.
    let next : suc k + 1 ≡ suc (k + 1) = omega arith in
    subst (λ (n : ℕ). is_lt (R (get_or (x ∷ xs) n d) (get_or xs k d)) ≡ false) next (up (suc k) d (omega arith) (omega (arith, high)))

-- an element below the first of what is sorted is below the second, too
still_below : {X : Type 0} {R : X → X → Ordering} (o : IsTotalOrder R) (x y z : X) → R x y ≡ Less → is_lt (R z y) ≡ false → R x z ≡ Less
still_below {R = R} o x y z less up = by (R y z) refl
  where
    by : (r : Ordering) → R y z ≡ r → R x z ≡ Less
    by Less e = o.trans x y z less e
    by Equal e = sym (alike_right o y z x e) ∙ less
    by Greater e = let back : R z y ≡ Less = o.antisymm z y ∙ ap ordering_reverse e in absurd cc

none_ties : {X : Type 0} {R : X → X → Ordering} (o : IsTotalOrder R) (x y : X) (ys : List X) → R x y ≡ Less → IsSorted R (y ∷ ys) → ties R x (y ∷ ys) ≡ 0
none_ties {R = R} o x y [] less up =
    let none : tied R x y ≡ 0 = rw less refl in
    let all = sum_by-cons (tied R x) y [] in
    omega (arith, none, all)
none_ties {R = R} o x y (z ∷ zs) less up =
    let none : tied R x y ≡ 0 = rw less refl in
    let all = sum_by-cons (tied R x) y (z ∷ zs) in
    let rest = none_ties o x z zs (still_below o x y z less (up 0 x (omega arith) (omega arith))) (tail_sorted R y (z ∷ zs) up) in
    omega (arith, none, all, rest)

itself_ties : {X : Type 0} {R : X → X → Ordering} (o : IsTotalOrder R) (x : X) (xs : List X) → 1 + ties R x xs ≡ ties R x (x ∷ xs)
itself_ties {R = R} o x xs =
    let one : tied R x x ≡ 1 = rw (tied_itself o x) refl in
    let all = sum_by-cons (tied R x) x xs in
    omega (arith, one, all)

-- the first of one list isn't below the first of the other
not_below : {X : Type 0} {R : X → X → Ordering} (o : IsTotalOrder R) (x y : X) (xs ys : List X) → IsSorted R (y ∷ ys) → ties R x (x ∷ xs) ≡ ties R x (y ∷ ys) → R x y ≡ Less → ⊥
not_below o x y xs ys up same less =
    let none = none_ties o x y ys less up in
    let some = itself_ties o x xs in
    absurd (omega (arith, none, some, same))

there : {X : Type 0} (x : X) (xs : List X) (y : X) → Contains xs y → Contains (x ∷ xs) y
there x xs y p = (suc p.0, omega (arith, p.1), p.2)

sorted_one : {X : Type 0} {R : X → X → Ordering} (o : IsTotalOrder R) (xs ys : List X) → IsSorted R xs → IsSorted R ys → ((x y : X) → Contains xs x → Contains ys y → R x y ≡ Equal → x ≡ y) → ((k : X) → ties R k xs ≡ ties R k ys) → xs ≡ ys
sorted_one o [] [] up other same counts = refl
sorted_one o [] (y ∷ ys) up other same counts = let some = itself_ties o y ys in let e = counts y in absurd (omega (arith, some, e))
sorted_one o (x ∷ xs) [] up other same counts = let some = itself_ties o x xs in let e = counts x in absurd (omega (arith, some, e))
sorted_one {X = X} {R = R} o (x ∷ xs) (y ∷ ys) up other same counts =
    by (λ first. sorted_one o xs ys (tail_sorted R x xs up) (tail_sorted R y ys other)
    (λ a b p q. same a b (there x xs a p) (there y ys b q))
    (λ k. let a = sum_by-cons (tied R k) x xs in
    let b = sum_by-cons (tied R k) y ys in
    let c = counts k in
    let d : tied R k x ≡ tied R k y = ap (tied R k) first in
    omega (arith, a, b, c, d)))
    (R x y) refl
  where
    by : (x ≡ y → xs ≡ ys) → (r : Ordering) → R x y ≡ r → x ∷ xs ≡ y ∷ ys
    by rest Less e = absurd (not_below o x y xs ys other (counts x) e)
    by rest Greater e = absurd (not_below o y x ys xs up (sym (counts y)) (o.antisymm y x ∙ ap ordering_reverse e))
    by rest Equal e =
        let first : x ≡ y = same x y (0, omega arith, refl) (0, omega arith, refl) e in
        ap (λ (z : X). z ∷ xs) first ∙ ap (λ (zs : List X). y ∷ zs) (rest first)

pub one_order : {X : Type 0} {R : X → X → Ordering} (o : IsTotalOrder R) (xs ys zs : List X) → IsPermutation xs ys → IsPermutation xs zs → IsSorted R ys → IsSorted R zs → ((x y : X) → Contains xs x → Contains xs y → R x y ≡ Equal → x ≡ y) → ys ≡ zs
one_order {R = R} o xs ys zs p q up other same =
    sorted_one o ys zs up other
    (λ x y h i. same x y (Contains-permutation ys xs x (IsPermutation-sym xs ys p) h) (Contains-permutation zs xs y (IsPermutation-sym xs zs q) i))
    (λ k. sum_by-IsPermutation (tied R k) xs ys p ∙ sym (sum_by-IsPermutation (tied R k) xs zs q))
