-- Runs in another order, and runs that rise.
use Rattle.std.proofs.Common.{◌≡◌, ℕ, zero, suc, ◌+◌, ◌-◌, ◌<◌, ◌≤◌, List, [], ◌∷◌, ◌++◌, length, map, get_or, set, ap₂, le_trans, ⊎_elim, refl, sym, ◌∙◌, ap, subst, arith, append_assoc}
use Rattle.std.specs.List.{flat_map, range_with_len, swap}
use Rattle.std.specs.List.Sorted.{IsPermutation, IsNonDecreasingBy}
use Rattle.std.proofs.lemmas.Bool.{cases_lt}
use Rattle.std.proofs.lemmas.Bool.Decides.{nat_tests}
use Rattle.std.proofs.lemmas.List.{map-append}
use Rattle.std.proofs.lemmas.List.Sorted.{IsPermutation-refl, IsPermutation-trans, IsPermutation-append_left, IsPermutation-append_right, IsPermutation-append_comm, IsPermutation-keeps}
use Rattle.par_work.specs.Drawn.{times}
use Rattle.par_work.specs.Fan.{numbered}
use Rattle.par_work.proofs.Steps.{times-append}
use Rattle.par_work.proofs.Counts.{once_from, in_window, below_window, past_window, times_range}

module _ {X A : Type 0} (f : X → List A) where
  -- two parts change places
  two : (a b c : List A) → IsPermutation (a ++ (b ++ c)) (b ++ (a ++ c))
  two a b c =
      subst (λ l. IsPermutation l (b ++ (a ++ c))) (append_assoc a b c)
      (subst (IsPermutation ((a ++ b) ++ c)) (append_assoc b a c) (IsPermutation-append_left c (a ++ b) (b ++ a) (IsPermutation-append_comm a b)))

  -- an element changes places with one at the front
  exchanged : (xs : List X) (i : ℕ) (x d : X) → i < length xs → IsPermutation (f x ++ flat_map f xs) (f (get_or xs i d) ++ flat_map f (set xs i x))
  exchanged [] i x d near = absurd (omega arith)
  exchanged (y ∷ ys) zero x d near = two (f x) (f y) (flat_map f ys)
  exchanged (y ∷ ys) (suc i) x d near =
      IsPermutation-trans (f x ++ (f y ++ flat_map f ys)) (f y ++ (f x ++ flat_map f ys)) (f (get_or ys i d) ++ (f y ++ flat_map f (set ys i x))) (two (f x) (f y) (flat_map f ys))
      (IsPermutation-trans (f y ++ (f x ++ flat_map f ys)) (f y ++ (f (get_or ys i d) ++ flat_map f (set ys i x))) (f (get_or ys i d) ++ (f y ++ flat_map f (set ys i x)))
      (IsPermutation-append_right (f y) (f x ++ flat_map f ys) (f (get_or ys i d) ++ flat_map f (set ys i x)) (exchanged ys i x d (omega arith))) (two (f y) (f (get_or ys i d)) (flat_map f (set ys i x))))

  swapped : (xs : List X) (i j : ℕ) (d : X) → i < length xs → j < length xs → IsPermutation (flat_map f xs) (flat_map f (set (set xs i (get_or xs j d)) j (get_or xs i d)))
  swapped [] i j d near near' = absurd (omega arith)
  swapped (x ∷ xs) zero zero d near near' = IsPermutation-refl (f x ++ flat_map f xs)
  swapped (x ∷ xs) zero (suc j) d near near' = exchanged xs j x d (omega arith)
  swapped (x ∷ xs) (suc i) zero d near near' = exchanged xs i x d (omega arith)
  swapped (x ∷ xs) (suc i) (suc j) d near near' = IsPermutation-append_right (f x) (flat_map f xs) (flat_map f (set (set xs i (get_or xs j d)) j (get_or xs i d))) (swapped xs i j d (omega arith) (omega arith))

  swaps : (xs : List X) (i j : ℕ) → i < length xs → j < length xs → IsPermutation (flat_map f xs) (flat_map f (swap xs i j))
  swaps [] i j near near' = absurd (omega arith)
  swaps (x ∷ xs) i j near near' = swapped (x ∷ xs) i j x near near'

  -- lists in another order have parts in another order
  pub flat_map-IsPermutation : (xs ys : List X) → IsPermutation xs ys → IsPermutation (flat_map f xs) (flat_map f ys)
  flat_map-IsPermutation xs ys moved =
      IsPermutation-keeps xs (λ l. IsPermutation (flat_map f xs) (flat_map f l)) (IsPermutation-refl (flat_map f xs))
      (λ l i j near near' was. IsPermutation-trans (flat_map f xs) (flat_map f l) (flat_map f (swap l i j)) was (swaps l i j near near')) ys moved

-- the numbers of numbered pieces
pub keys_numbered : {Piece : Type 0} (a : ℕ) (pieces : List Piece) → map (λ (run : ℕ × Piece). run.0) (numbered a pieces) ≡ range_with_len a (length pieces)
keys_numbered a [] = refl
keys_numbered a (piece ∷ pieces) = ap (λ l. a ∷ l) (keys_numbered (a + 1) pieces)

pub numbered-append : {Piece : Type 0} (a : ℕ) (pieces more : List Piece) → numbered a (pieces ++ more) ≡ numbered a pieces ++ numbered (a + length pieces) more
numbered-append a [] more = ap (λ n. numbered n more) (on a)
  where
    on : (a : ℕ) → a ≡ a + 0
    on a = omega arith
numbered-append a (piece ∷ pieces) more = ap (λ l. (a, piece) ∷ l) (numbered-append (a + 1) pieces more ∙ ap (λ n. numbered (a + 1) pieces ++ numbered n more) (on a (length pieces)))
  where
    on : (a n : ℕ) → (a + 1) + n ≡ a + suc n
    on a n = omega arith

-- a window is two windows
window_parts : (x a m n : ℕ) → n ≤ m → once_from x a m ≡ once_from x a n + once_from x (a + n) (m - n)
window_parts x a m n within =
    ⊎_elim
    (λ (low : x < a). omega (arith, below_window x a m low, below_window x a n low, below_window x (a + n) (m - n) (omega arith)))
    (λ (from : a ≤ x).
    ⊎_elim
    (λ (first : x < a + n). omega (arith, in_window x a m from (omega arith), in_window x a n from first, below_window x (a + n) (m - n) first))
    (λ (second : a + n ≤ x).
    ⊎_elim
    (λ (near : x < a + m). omega (arith, in_window x a m from near, past_window x a n second, in_window x (a + n) (m - n) second (omega arith)))
    (λ (far : a + m ≤ x). omega (arith, past_window x a m far, past_window x a n second, past_window x (a + n) (m - n) (omega arith)))
    (cases_lt x (a + m)))
    (cases_lt x (a + n)))
    (cases_lt x a)

module _ {X Piece : Type 0} (first : X → ℕ) (pieces : X → List Piece) where
  -- a run's jobs, each with its piece
  abbrev pub log : X → List (ℕ × Piece)
  log r = numbered (first r) (pieces r)

  abbrev pub keys : List X → List ℕ
  keys xs = map (λ (run : ℕ × Piece). run.0) (flat_map log xs)

  keys_cons : (x : ℕ) (r : X) (rs : List X) → times x (keys (r ∷ rs)) ≡ once_from x (first r) (length (pieces r)) + times x (keys rs)
  keys_cons x r rs =
      ap (times x) (map-append (λ (run : ℕ × Piece). run.0) (log r) (flat_map log rs))
      ∙ (times-append x (map (λ (run : ℕ × Piece). run.0) (log r)) (keys rs) ∙ ap (λ n. n + times x (keys rs)) (ap (times x) (keys_numbered (first r) (pieces r)) ∙ times_range x (first r) (length (pieces r))))

  -- a run that begins no later than a job that was run
  has_run : (xs : List X) (x : ℕ) → 0 < times x (keys xs) → (i : ℕ) × (i < length xs) × ((d : X) → first (get_or xs i d) ≤ x)
  has_run [] x some = absurd (omega arith)
  has_run (r ∷ rs) x some =
      ⊎_elim
      (λ (low : x < first r). let rest = has_run rs x (omega (arith, some, keys_cons x r rs, below_window x (first r) (length (pieces r)) low)) in (suc rest.0, omega (arith, rest.1), λ d. rest.2 d))
      (λ (from : first r ≤ x). (0, omega arith, λ d. from))
      (cases_lt x (first r))

  rest_rises : (r : X) (rs : List X) → IsNonDecreasingBy first (r ∷ rs) → IsNonDecreasingBy first rs
  rest_rises r rs up i j d le near = up (suc i) (suc j) d (omega arith) (omega arith)

  -- a run with jobs begins where the window does, and ends in it
  begins_at : (m a n : ℕ) (r : X) (rs : List X) → IsNonDecreasingBy first (r ∷ rs) → ((x : ℕ) → times x (keys (r ∷ rs)) ≡ once_from x a m) → length (pieces r) ≡ suc n → (first r ≡ a) × (suc n ≤ m)
  begins_at m a n r rs up each long =
      let here : once_from (first r) (first r) (length (pieces r)) ≡ 1 = in_window (first r) (first r) (length (pieces r)) (omega arith) (omega arith) in
      let low : a ≤ first r = ⊎_elim (λ (less : first r < a). absurd (omega (arith, each (first r), keys_cons (first r) r rs, below_window (first r) a m less))) (λ (more : a ≤ first r). more) (cases_lt (first r) a) in
      let some : first r < a + m = ⊎_elim (λ (near : first r < a + m). near) (λ (far : a + m ≤ first r). absurd (omega (arith, each (first r), keys_cons (first r) r rs, past_window (first r) a m far))) (cases_lt (first r) (a + m)) in
      let there = has_run (r ∷ rs) a (omega (arith, each a, in_window a a m (omega arith) (omega arith))) in
      let high : first r ≤ a = le_trans (up 0 there.0 r (omega arith) there.1) (there.2 r) in
      let is : first r ≡ a = omega arith in
      let last : ℕ = first r + n in
      let end : once_from last (first r) (length (pieces r)) ≡ 1 = in_window last (first r) (length (pieces r)) (omega arith) (omega arith) in
      let within : last < a + m = ⊎_elim (λ (near : last < a + m). near) (λ (far : a + m ≤ last). absurd (omega (arith, each last, keys_cons last r rs, past_window last a m far))) (cases_lt last (a + m)) in (is, omega arith)

  -- runs that rise, and have the jobs of a window, each once, are the window's pieces with their numbers
  pub runs_are : (xs : List X) (m a : ℕ) → IsNonDecreasingBy first xs → ((x : ℕ) → times x (keys xs) ≡ once_from x a m) → flat_map log xs ≡ numbered a (flat_map pieces xs)
  runs_are [] m a up each = refl
  runs_are (r ∷ rs) m a up each = by_pieces (λ m' a' each'. runs_are rs m' a' (rest_rises r rs up) each') (pieces r) refl
    where
      by_pieces : ((m' a' : ℕ) → ((x : ℕ) → times x (keys rs) ≡ once_from x a' m') → flat_map log rs ≡ numbered a' (flat_map pieces rs)) → (ps : List Piece) → pieces r ≡ ps → log r ++ flat_map log rs ≡ numbered a (pieces r ++ flat_map pieces rs)
      by_pieces again [] e =
          subst (λ l. numbered (first r) l ++ flat_map log rs ≡ numbered a (l ++ flat_map pieces rs)) (sym e)
          (again m a (λ x. let n : length (pieces r) ≡ 0 = ap length e in omega (arith, each x, keys_cons x r rs, ap (once_from x (first r)) n, past_or_below x (first r))))
        where
          past_or_below : (x s : ℕ) → once_from x s 0 ≡ 0
          past_or_below x s = grind (arith, nat_tests)
      by_pieces again (p ∷ ps) e =
          let n : ℕ = length ps in
          let long : length (pieces r) ≡ suc n = ap length e in
          let at = begins_at m a n r rs up each long in
          let rest = again (m - suc n) (a + suc n) (λ x. omega (arith, each x, keys_cons x r rs, ap₂ (once_from x) at.0 long, window_parts x a m (suc n) at.1)) in
          ap₂ (λ s l. numbered s (pieces r) ++ l) at.0 (rest ∙ ap (λ k. numbered (a + k) (flat_map pieces rs)) (sym long)) ∙ sym (numbered-append a (pieces r) (flat_map pieces rs))
