-- Lists that are put together in another order.
use Rattle.std.proofs.Common.{◌≡◌, ℕ, ◌+◌, ◌<◌, ◌≤◌, List, [], ◌∷◌, ◌++◌, length, map, take, drop, get_or, sym, ap, subst, ◌∙◌, arith, append_assoc, length-take, IsPermutation}
use Rattle.std.specs.List.{enumerate_from, flat_map}
use Rattle.std.proofs.lemmas.Grind.{flat_map-append}
use Rattle.std.proofs.lemmas.List.{append-nil, map-append, take-append-drop, take_all, take_more}
use Rattle.std.proofs.lemmas.List.Sorted.{IsPermutation-append_comm, IsPermutation-append_left, IsPermutation-append_right, IsPermutation-trans}

-- ---- what each element of a list gives with its number

pub record IsNumbered {X Y : Type 0} (f : ℕ × X → Y) (before now : List Y) (xs : List X) (at : ℕ) : Type 0 where
  pub are : now ≡ before ++ map f (enumerate_from 0 (take at xs))

pub number_start : {X Y : Type 0} (f : ℕ × X → Y) (before : List Y) (xs : List X) → IsNumbered f before before xs 0
number_start f before xs = record { are = sym (append-nil before) }

numbered_last : {X : Type 0} (n : ℕ) (xs : List X) (x : X) → enumerate_from n (xs ++ x ∷ []) ≡ enumerate_from n xs ++ (n + length xs, x) ∷ []
numbered_last {X = X} n [] x = let same : n ≡ n + 0 = omega arith in ap (λ (k : ℕ). let p : ℕ × X = (k, x) in p ∷ []) same
numbered_last {X = X} n (y ∷ xs) x =
    let same : (n + 1) + length xs ≡ n + length (y ∷ xs) = omega arith in
    ap (λ (ps : List (ℕ × X)). let p : ℕ × X = (n, y) in p ∷ ps)
    (numbered_last (n + 1) xs x ∙ ap (λ (k : ℕ). let p : ℕ × X = (k, x) in enumerate_from (n + 1) xs ++ p ∷ []) same)

pub number_more : {X Y : Type 0} (f : ℕ × X → Y) (before now new : List Y) (xs : List X) (at : ℕ) (x : X) → IsNumbered f before now xs at → at < length xs → x ≡ get_or xs at x → new ≡ now ++ f (at, x) ∷ [] → IsNumbered f before new xs (at + 1)
number_more {X = X} {Y = Y} f before now new xs at x numbered low is more = record {
  are =
      let count : 0 + length (take at xs) ≡ at = omega (arith, length-take at xs) in
      let next : enumerate_from 0 (take (at + 1) xs) ≡ enumerate_from 0 (take at xs) ++ (at, x) ∷ [] =
      ap (enumerate_from 0) (take_more xs at x low ∙ ap (λ (y : X). take at xs ++ y ∷ []) (sym is))
      ∙ numbered_last 0 (take at xs) x ∙ ap (λ (n : ℕ). let p : ℕ × X = (n, x) in enumerate_from 0 (take at xs) ++ p ∷ []) count in
      more ∙ ap (λ (ys : List Y). ys ++ f (at, x) ∷ []) numbered.are
      ∙ append_assoc before (map f (enumerate_from 0 (take at xs))) (f (at, x) ∷ [])
      ∙ ap (λ (ys : List Y). before ++ ys) (sym (ap (map f) next ∙ map-append f (enumerate_from 0 (take at xs)) ((at, x) ∷ [])));
}

pub number_end : {X Y : Type 0} (f : ℕ × X → Y) (before now : List Y) (xs : List X) (at : ℕ) → IsNumbered f before now xs at → length xs ≤ at → now ≡ before ++ map f (enumerate_from 0 xs)
number_end {X = X} {Y = Y} f before now xs at numbered past = numbered.are ∙ ap (λ (ys : List X). before ++ map f (enumerate_from 0 ys)) (take_all at xs past)

pub ruleset numbers = (number_start, number_more, number_end)

-- ---- parts

parts_move : {X : Type 0} (F G M T R : List X) → IsPermutation (G ++ (T ++ (F ++ (M ++ R)))) ((((F ++ G) ++ M) ++ T) ++ R)
parts_move {X = X} F G M T R =
    let inner : T ++ (F ++ (M ++ R)) ≡ (T ++ (F ++ M)) ++ R = simp append_assoc in
    let outer : G ++ (((F ++ M) ++ T) ++ R) ≡ (((G ++ F) ++ M) ++ T) ++ R = simp append_assoc in
    IsPermutation-trans (G ++ (T ++ (F ++ (M ++ R)))) (G ++ (((F ++ M) ++ T) ++ R)) ((((F ++ G) ++ M) ++ T) ++ R)
    (IsPermutation-append_right G (T ++ (F ++ (M ++ R))) (((F ++ M) ++ T) ++ R)
    (subst (λ (ys : List X). IsPermutation ys (((F ++ M) ++ T) ++ R)) (sym inner)
    (IsPermutation-append_left R (T ++ (F ++ M)) ((F ++ M) ++ T) (IsPermutation-append_comm T (F ++ M)))))
    (subst (λ (ys : List X). IsPermutation ys ((((F ++ G) ++ M) ++ T) ++ R)) (sym outer)
    (IsPermutation-append_left R (((G ++ F) ++ M) ++ T) (((F ++ G) ++ M) ++ T)
    (IsPermutation-append_left T ((G ++ F) ++ M) ((F ++ G) ++ M)
    (IsPermutation-append_left M (G ++ F) (F ++ G) (IsPermutation-append_comm G F)))))

pub gathered : {X : Type 0} (F G M T R first second third : List X) → IsPermutation F first → IsPermutation ((first ++ G) ++ M) second → IsPermutation ((second ++ T) ++ R) third → IsPermutation (G ++ (T ++ (F ++ (M ++ R)))) third
gathered F G M T R first second third a b c =
    let front : IsPermutation ((F ++ G) ++ M) second =
    IsPermutation-trans ((F ++ G) ++ M) ((first ++ G) ++ M) second (IsPermutation-append_left M (F ++ G) (first ++ G) (IsPermutation-append_left G F first a)) b in
    let all : IsPermutation ((((F ++ G) ++ M) ++ T) ++ R) third =
    IsPermutation-trans ((((F ++ G) ++ M) ++ T) ++ R) ((second ++ T) ++ R) third
    (IsPermutation-append_left R (((F ++ G) ++ M) ++ T) (second ++ T) (IsPermutation-append_left T ((F ++ G) ++ M) second front)) c in
    IsPermutation-trans (G ++ (T ++ (F ++ (M ++ R)))) ((((F ++ G) ++ M) ++ T) ++ R) third (parts_move F G M T R) all

pub in_parts : {X Y : Type 0} (f : X → List Y) (xs : List X) (i j : ℕ) → flat_map f xs ≡ flat_map f (take i xs) ++ (flat_map f (take j (drop i xs)) ++ flat_map f (drop j (drop i xs)))
in_parts {X = X} {Y = Y} f xs i j =
    ap (flat_map f) (sym (take-append-drop i xs))
    ∙ flat_map-append f (take i xs) (drop i xs)
    ∙ ap (λ (ys : List Y). flat_map f (take i xs) ++ ys) (ap (flat_map f) (sym (take-append-drop j (drop i xs))) ∙ flat_map-append f (take j (drop i xs)) (drop j (drop i xs)))
