-- How many elements pass a test.
use Rattle.std.proofs.Common.{◌≡◌, ℕ, zero, suc, ◌+◌, ◌≤◌, ◌∷◌, [], ◌||◌, List, length, map, Bool, true, false, cond, leb, refl, sym, ap, ◌∙◌, arith}
use Rattle.std.specs.List.{count_by, list_any}
use Rattle.std.specs.List.Sorted.{IsPartitionPoint, IsPermutation}
use Rattle.std.proofs.lemmas.Bool.{le-leb}
use Rattle.std.proofs.lemmas.List.Sorted.{sum_by-IsPermutation}
use Rattle.std.proofs.lemmas.List.Sums.{sum_by-cons}

pub count_passed : {X : Type 0} (p : X → Bool) (x : X) (xs : List X) → p x ≡ true → count_by p (x ∷ xs) ≡ 1 + count_by p xs
count_passed p x xs pass = sum_by-cons (λ y. cond (p y) 1 0) x xs ∙ ap (λ b. cond b 1 0 + count_by p xs) pass

pub count_failed : {X : Type 0} (p : X → Bool) (x : X) (xs : List X) → p x ≡ false → count_by p (x ∷ xs) ≡ count_by p xs
count_failed p x xs fail = let e : count_by p (x ∷ xs) ≡ 0 + count_by p xs = sum_by-cons (λ y. cond (p y) 1 0) x xs ∙ ap (λ b. cond b 1 0 + count_by p xs) fail in omega arith

-- where the elements that pass stand first, the place after them counts them

pub point_counts : {X : Type 0} (p : X → Bool) (xs : List X) (point : ℕ) → point ≤ length xs → IsPartitionPoint (λ x. p x ≡ true) (λ x. p x ≡ false) xs point → point ≡ count_by p xs
point_counts p [] point within parted = omega arith
point_counts p (x ∷ xs) zero within parted =
    let fail : p x ≡ false = parted.1 0 x (omega arith) (omega arith) in
    let rest : 0 ≡ count_by p xs = point_counts p xs 0 (omega arith) ((λ k d low high. absurd (omega arith)), (λ k d low high. parted.1 (suc k) d (omega arith) (omega arith))) in
    rest ∙ sym (count_failed p x xs fail)
point_counts p (x ∷ xs) (suc point) within parted =
    let pass : p x ≡ true = parted.0 0 x (omega arith) (omega arith) in
    let rest : point ≡ count_by p xs = point_counts p xs point (omega arith) ((λ k d low high. parted.0 (suc k) d (omega arith) (omega arith)), (λ k d low high. parted.1 (suc k) d (omega arith) (omega arith))) in
    let more : count_by p (x ∷ xs) ≡ 1 + count_by p xs = count_passed p x xs pass in
    omega arith

pub count_moved : {X : Type 0} (p : X → Bool) (xs ys : List X) → IsPermutation xs ys → count_by p ys ≡ count_by p xs
count_moved p xs ys moved = sum_by-IsPermutation (λ x. cond (p x) 1 0) xs ys moved

pub count_mapped : {X Y : Type 0} (p : Y → Bool) (f : X → Y) (xs : List X) → count_by p (map f xs) ≡ count_by (λ x. p (f x)) xs
count_mapped p f [] = refl
count_mapped p f (x ∷ xs) =
    sum_by-cons (λ y. cond (p y) 1 0) (f x) (map f xs) ∙ ap (λ n. cond (p (f x)) 1 0 + n) (count_mapped p f xs)
    ∙ sym (sum_by-cons (λ y. cond (p (f y)) 1 0) x xs)

-- some element passes where one or more do

pub any_counts : {X : Type 0} (p : X → Bool) (xs : List X) → list_any p xs ≡ leb 1 (count_by p xs)
any_counts p [] = refl
any_counts p (x ∷ xs) = rw (sum_by-cons (λ y. cond (p y) 1 0) x xs) (one (p x) (list_any p xs) (count_by p xs) (any_counts p xs))
  where
    one : (b rest : Bool) (n : ℕ) → rest ≡ leb 1 n → (b || rest) ≡ leb 1 (cond b 1 0 + n)
    one true rest n e = sym (le-leb 1 (1 + n) (omega arith))
    one false rest n e = let same : 0 + n ≡ n = omega arith in rw same e
