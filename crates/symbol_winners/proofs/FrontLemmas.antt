-- Lists of bytes compare as the numbers of their fronts do, where these are two.
use Rattle.std.proofs.Common.{◌≡◌, ℕ, ◌+◌, ◌*◌, ◌^◌, ◌<◌, ◌≤◌, List, [], ◌∷◌, drop, get_or, refl, sym, ap, ◌∙◌, arith, inl, inr, le_refl, pow-suc, mul_comm, add-one, Ordering, Less, Equal, Greater, zero, suc}
use Rattle.std.proofs.lemmas.Bool.{cases_order}
use Rattle.std.specs.Ordering.{nat_cmp, ordering_then, ordering_reverse}
use Rattle.std.specs.Cmp.Lexicographic.{slice_cmp, nat_list_cmp_total}
use Rattle.std.proofs.lemmas.Nat.{pow-add, row_fits}
use Rattle.std.proofs.Math.Nat.{pow-le-pow_right}
use Rattle.std.specs.Int.{from_be_bytes, w64}
use Rattle.symbol_winners.specs.declared.front.Front.{Front}
use Rattle.symbol_winners.specs.inner.Front.{AreBytes, IsFrontOf, front_number}

-- n bytes spell less than 256 ^ n
front_low : (n : ℕ) (xs : List ℕ) → AreBytes xs → front_number n xs < 256 ^ n
unfolding front_number
front_low zero xs all = omega arith
front_low (suc n) [] all = grind (arith, front_low n [] all)
front_low (suc n) (x ∷ xs) all =
    let rest : front_number n xs < 256 ^ n = front_low n xs (λ k. all (suc k)) in
    let first : x < 256 = all 0 in
    step x (256 ^ n) (256 ^ suc n) (front_number n xs) (pow-suc 256 n ∙ mul_comm (256 ^ n) 256) first rest
  where
    step : (x p q f : ℕ) → q ≡ 256 * p → x < 256 → f < p → x * p + f < q
    step x p q f is low rest =
        let r : x * p + p ≤ 256 * p = row_fits x p 256 p low (le_refl p) in
        omega arith

-- the first part decides between two numbers of two parts
high_less : (x y p f g : ℕ) → g < p → y < x → x * p + f < y * p + g → ⊥
high_less x y p f g low less e =
    let r : y * p + p ≤ x * p = row_fits y p x p less (le_refl p) in
    omega arith

first_less : (x y : ℕ) (o : Ordering) → x < y → ordering_then (nat_cmp x y) o ≡ Less
first_less x y o less = grind arith

first_more : (x y : ℕ) (o : Ordering) → y < x → ordering_then (nat_cmp x y) o ≡ Greater
first_more x y o more = grind arith

first_same : (x y : ℕ) (o : Ordering) → x ≡ y → ordering_then (nat_cmp x y) o ≡ o
first_same x y o same = grind arith

-- names compare as their fronts do
front_less : (n : ℕ) (a b : List ℕ) → AreBytes a → AreBytes b → front_number n a < front_number n b → slice_cmp nat_cmp a b ≡ Less
unfolding front_number
front_less zero a b all each less = absurd (omega arith)
front_less (suc n) [] [] all each less = absurd (omega arith)
front_less (suc n) [] (y ∷ ys) all each less = refl
front_less (suc n) (x ∷ xs) [] all each less = absurd (omega arith)
front_less (suc n) (x ∷ xs) (y ∷ ys) all each less =
    by (front_low n ys (λ k. each (suc k))) (front_less n xs ys (λ k. all (suc k)) (λ k. each (suc k)))
  where
    by : front_number n ys < 256 ^ n → (front_number n xs < front_number n ys → slice_cmp nat_cmp xs ys ≡ Less) → ordering_then (nat_cmp x y) (slice_cmp nat_cmp xs ys) ≡ Less
    by low rest = elim (cases_order x y) [
      | inl same ↦ first_same x y (slice_cmp nat_cmp xs ys) same ∙ rest (tail (256 ^ n) (front_number n xs) (front_number n ys) same less)
      | inr (inl under) ↦ first_less x y (slice_cmp nat_cmp xs ys) under
      | inr (inr over) ↦ absurd (high_less x y (256 ^ n) (front_number n xs) (front_number n ys) low over less)
    ]
      where
        tail : (p f g : ℕ) → x ≡ y → x * p + f < y * p + g → f < g
        tail p f g same e = let l : x * p ≡ y * p = ap (λ z. z * p) same in omega arith

front_greater : (n : ℕ) (a b : List ℕ) → AreBytes a → AreBytes b → front_number n b < front_number n a → slice_cmp nat_cmp a b ≡ Greater
front_greater n a b all each less = nat_list_cmp_total.antisymm a b ∙ ap ordering_reverse (front_less n b a each all less)

-- one more byte
front_more : (n : ℕ) (xs : List ℕ) → front_number (suc n) xs ≡ front_number n xs * 256 + get_or xs n 0
unfolding front_number
front_more zero [] = omega arith
front_more zero (x ∷ xs) = omega arith
front_more (suc n) [] = refl
front_more (suc n) (x ∷ xs) = step (256 ^ n) (256 ^ suc n) (front_number (suc n) xs) (front_number n xs) (get_or xs n 0) (pow-suc 256 n ∙ mul_comm (256 ^ n) 256) (front_more n xs)
  where
    step : (p q f g b : ℕ) → q ≡ 256 * p → f ≡ g * 256 + b → x * q + f ≡ (x * p + g) * 256 + b
    step p q f g b is e = rw (is, e) (grind arith)

-- the number of eight bytes has 64 bits
pub front_fits : (n number byte : ℕ) (xs : List ℕ) → AreBytes xs → n < 8 → number ≡ front_number n xs → byte < 256 → number * 256 + byte < 2 ^ 64
front_fits n number byte xs all low is small =
    let f : front_number n xs < 256 ^ n = front_low n xs all in
    let p : 256 ^ n ≤ 256 ^ 7 = pow-le-pow_right {n = 256} (omega arith) {i = n} {j = 7} (omega arith) in
    omega arith

pub product_fits : (n number : ℕ) (xs : List ℕ) → AreBytes xs → n < 8 → number ≡ front_number n xs → number * 256 < 2 ^ 64
product_fits n number xs all low is = let f = front_fits n number 0 xs all low is (omega arith) in omega arith

pub front_start : (xs : List ℕ) → 0 ≡ front_number 0 xs
unfolding front_number
front_start xs = refl

pub front_next : (n number byte : ℕ) (xs : List ℕ) → number ≡ front_number n xs → byte ≡ get_or xs n 0 → number * 256 + byte ≡ front_number (n + 1) xs
front_next n number byte xs is read = rw (is, read, add-one n) (sym (front_more n xs))

-- the bytes themselves, at their places
pub eight_bytes : (xs : List ℕ) → from_be_bytes w64 (get_or xs 0 0 ∷ get_or xs 1 0 ∷ get_or xs 2 0 ∷ get_or xs 3 0 ∷ get_or xs 4 0 ∷ get_or xs 5 0 ∷ get_or xs 6 0 ∷ get_or xs 7 0 ∷ []) ≡ front_number 8 xs
eight_bytes xs =
    let none : front_number 0 xs ≡ 0 = sym (front_start xs) in
    omega (arith, none, front_more 0 xs, front_more 1 xs, front_more 2 xs, front_more 3 xs, front_more 4 xs, front_more 5 xs, front_more 6 xs, front_more 7 xs)

pub ruleset numbering = (front_start, front_next, product_fits, front_fits)

-- ---- a front and the bytes behind it

none_left : (n : ℕ) → front_number n [] ≡ 0
unfolding front_number
none_left zero = refl
none_left (suc n) = refl

zero_behind : (n : ℕ) (xs : List ℕ) → front_number n xs ≡ 0 * 256 ^ n + front_number n (drop 0 xs)
zero_behind n [] = omega arith
zero_behind n (x ∷ xs) = omega arith

-- a wider front is a front and that of the bytes behind it
front_split : (m n : ℕ) (xs : List ℕ) → front_number (m + n) xs ≡ front_number m xs * 256 ^ n + front_number n (drop m xs)
unfolding front_number
front_split zero n xs = let e : zero + n ≡ n = omega arith in rw e (zero_behind n xs)
front_split (suc m) n [] = none_left (suc m + n) ∙ sym (none_left n) ∙ zero_behind n []
front_split (suc m) n (x ∷ xs) = let e : suc m + n ≡ suc (m + n) = omega arith in rw e (step (256 ^ (m + n)) (256 ^ m) (256 ^ n) (front_number (m + n) xs) (front_number m xs) (front_number n (drop m xs)) (pow-add 256 m n) (front_split m n xs))
  where
    step : (p q r f g h : ℕ) → p ≡ q * r → f ≡ g * r + h → x * p + f ≡ (x * q + g) * r + h
    step p q r f g h is e = rw (is, e) (grind arith)

same_behind : (m n : ℕ) (a b : List ℕ) → front_number m a ≡ front_number m b → front_number n (drop m a) ≡ front_number n (drop m b) → front_number (m + n) a ≡ front_number (m + n) b
same_behind m n a b front rest = rw (front_split m n a, front_split m n b, front, rest) refl

less_behind : (m n : ℕ) (a b : List ℕ) → front_number m a ≡ front_number m b → front_number n (drop m a) < front_number n (drop m b) → front_number (m + n) a < front_number (m + n) b
less_behind m n a b front less = rw (front_split m n a, front_split m n b, front) (omega (arith, less))

-- where two fronts are one, the numbers of the bytes behind them decide, unless these are one too
behind_decides : (n x y : ℕ) (rest o : Ordering) (a b : List ℕ) → AreBytes a → AreBytes b → front_number n a ≡ front_number n b → x ≡ front_number 8 (drop n a) → y ≡ front_number 8 (drop n b) → o ≡ ordering_then (nat_cmp x y) rest → (front_number (n + 8) a ≡ front_number (n + 8) b → o ≡ rest → o ≡ slice_cmp nat_cmp a b) → o ≡ slice_cmp nat_cmp a b
behind_decides n x y rest o a b all each front left right is later = elim (cases_order x y) [
  | inl same ↦ later (same_behind n 8 a b front (sym left ∙ same ∙ right)) (is ∙ first_same x y rest same)
  | inr (inl under) ↦ is ∙ first_less x y rest under ∙ sym (front_less (n + 8) a b all each (less_behind n 8 a b front (rw (← left, ← right) under)))
  | inr (inr over) ↦ is ∙ first_more x y rest over ∙ sym (front_greater (n + 8) a b all each (less_behind n 8 b a (sym front) (rw (← left, ← right) over)))
]

no_front : (a b : List ℕ) → front_number 0 a ≡ front_number 0 b
unfolding front_number
no_front a b = refl

then_equal : (o : Ordering) → o ≡ ordering_then o Equal
then_equal Less = refl
then_equal Equal = refl
then_equal Greater = refl

-- so what a comparison of two fronts answers, unless they are one, is how the names compare
pub fronts_decide : (f g : Front) (o : Ordering) (a b : List ℕ) → o ≡ ordering_then (nat_cmp f.first g.first) (ordering_then (nat_cmp f.second g.second) (nat_cmp f.third g.third)) → IsFrontOf a f → IsFrontOf b g → (o ≡ Equal → ⊥) → o ≡ slice_cmp nat_cmp a b
fronts_decide f g o a b is left right apart =
    behind_decides 0 f.first g.first (ordering_then (nat_cmp f.second g.second) (nat_cmp f.third g.third)) o a b left.bytes right.bytes (no_front a b) left.first_is right.first_is is
    (λ e rest. behind_decides 8 f.second g.second (nat_cmp f.third g.third) o a b left.bytes right.bytes e left.second_is right.second_is rest
    (λ e rest. behind_decides 16 f.third g.third Equal o a b left.bytes right.bytes e left.third_is right.third_is (rest ∙ then_equal (nat_cmp f.third g.third))
    (λ e same. absurd (apart same))))
