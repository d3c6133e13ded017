-- How strings begin one another, and lists of strings that rise.
use Rattle.std.proofs.Common.{◌≡◌, ℕ, ◌<◌, ◌≤◌, ◌⊎◌, true, eqb, ltb, List, [], ◌∷◌, ◌++◌, length, drop, refl, sym, ◌∙◌, ap, inl, inr, arith}
use Rattle.std.specs.List.{AllByRecursion}
use Rattle.std.specs.List.Sorted.{IsStrictlySortedBy}
use Rattle.std.specs.Ordering.{nat_cmp, ordering_then}
use Rattle.std.specs.Cmp.Lexicographic.{slice_cmp}
use Rattle.std.specs.declared.cmp.Ordering.{Ordering}
use Rattle.std.specs.declared.cmp.Ordering.TheVariants.{Less, Equal, Greater}
use Rattle.std.proofs.lemmas.Bool.{cases_order, ne_eqb, cases_Bool, and_parts, and_from, lt-ltb, ltb-true, le-ltb, eqb-true, eq-eqb, false≢true}
use Rattle.export_trie.specs.Strings.{begins, is_above, common}

-- ---- strings

eqb_self : (x : ℕ) → eqb x x ≡ true
eqb_self x = eq-eqb x x refl

pub begins_self : (text : List ℕ) → begins text text ≡ true
begins_self [] = refl
begins_self (x ∷ text) = rw (eqb_self x) (begins_self text)

pub begins_append : (front text : List ℕ) → begins front (front ++ text) ≡ true
begins_append [] text = refl
begins_append (x ∷ front) text = rw (eqb_self x) (begins_append front text)

pub begins_parts : (x y : ℕ) (front text : List ℕ) → begins (x ∷ front) (y ∷ text) ≡ true → (x ≡ y) × (begins front text ≡ true)
begins_parts x y front text h = let parts = and_parts (eqb x y) (begins front text) h in (eqb-true x y parts.0, parts.1)

pub begins_from : (x y : ℕ) (front text : List ℕ) → x ≡ y → begins front text ≡ true → begins (x ∷ front) (y ∷ text) ≡ true
begins_from x y front text e h = and_from (eqb x y) (begins front text) (eq-eqb x y e) h

pub begins_trans : (a b c : List ℕ) → begins a b ≡ true → begins b c ≡ true → begins a c ≡ true
begins_trans [] b c p q = refl
begins_trans (x ∷ a) [] c p q = absurd (false≢true p)
begins_trans (x ∷ a) (y ∷ b) [] p q = absurd (false≢true q)
begins_trans (x ∷ a) (y ∷ b) (z ∷ c) p q =
    let front = begins_parts x y a b p in
    let back = begins_parts y z b c q in
    begins_from x z a c (front.0 ∙ back.0) (begins_trans a b c front.1 back.1)

pub begins_short : (a b : List ℕ) → begins a b ≡ true → length a ≤ length b
begins_short [] b p = omega arith
begins_short (x ∷ a) [] p = absurd (false≢true p)
begins_short (x ∷ a) (y ∷ b) p = omega (arith, begins_short a b (begins_parts x y a b p).1)

-- two strings that begin a third
pub begins_shorter : (a b c : List ℕ) → begins a c ≡ true → begins b c ≡ true → length a ≤ length b → begins a b ≡ true
begins_shorter [] b c p q short = refl
begins_shorter (x ∷ a) [] c p q short = absurd (omega arith)
begins_shorter (x ∷ a) (y ∷ b) [] p q short = absurd (false≢true q)
begins_shorter (x ∷ a) (y ∷ b) (z ∷ c) p q short =
    let front = begins_parts x z a c p in
    let back = begins_parts y z b c q in
    begins_from x y a b (front.0 ∙ sym back.0) (begins_shorter a b c front.1 back.1 (omega arith))

-- an edge begins the rest of a name where the node that it leads to begins the name
pub begins_edge : (node below rest : List ℕ) → begins node below ≡ true → begins (drop (length node) below) rest ≡ begins below (node ++ rest)
begins_edge [] below rest h = refl
begins_edge (x ∷ node) [] rest h = absurd (false≢true h)
begins_edge (x ∷ node) (y ∷ below) rest h =
    let parts = begins_parts x y node below h in
    rw (eq-eqb y x (sym parts.0)) (begins_edge node below rest parts.1)

pub above_parts : (a b : List ℕ) → is_above a b ≡ true → (begins a b ≡ true) × (length a < length b)
above_parts a b h = let parts = and_parts (begins a b) (ltb (length a) (length b)) h in (parts.0, ltb-true (length a) (length b) parts.1)

pub above_from : (a b : List ℕ) → begins a b ≡ true → length a < length b → is_above a b ≡ true
above_from a b p q = and_from (begins a b) (ltb (length a) (length b)) p (lt-ltb (length a) (length b) q)

-- ---- what strings have in common

pub common_self : (a : List ℕ) → common a a ≡ a
common_self [] = refl
common_self (x ∷ a) = rw (eqb_self x) (ap (λ (text : List ℕ). x ∷ text) (common_self a))

pub common_left : (a b : List ℕ) → begins (common a b) a ≡ true
common_left [] b = refl
common_left (x ∷ a) [] = refl
common_left (x ∷ a) (y ∷ b) =
    elim (cases_Bool (eqb x y)) [
      | inl same ↦ rw same (begins_from x x (common a b) a refl (common_left a b))
      | inr apart ↦ rw apart refl
    ]

pub common_right : (a b : List ℕ) → begins (common a b) b ≡ true
common_right [] b = refl
common_right (x ∷ a) [] = refl
common_right (x ∷ a) (y ∷ b) =
    elim (cases_Bool (eqb x y)) [
      | inl same ↦ rw same (begins_from x y (common a b) b (eqb-true x y same) (common_right a b))
      | inr apart ↦ rw apart refl
    ]

-- nothing longer begins both
pub common_most : (front a b : List ℕ) → begins front a ≡ true → begins front b ≡ true → begins front (common a b) ≡ true
common_most [] a b p q = refl
common_most (z ∷ front) [] b p q = absurd (false≢true p)
common_most (z ∷ front) (x ∷ a) [] p q = absurd (false≢true q)
common_most (z ∷ front) (x ∷ a) (y ∷ b) p q =
    let left = begins_parts z x front a p in
    let right = begins_parts z y front b q in
    rw (eq-eqb x y (sym left.0 ∙ right.0)) (begins_from z x front (common a b) left.0 (common_most front a b left.1 right.1))

-- ---- byte order

-- the first string stands before the second
abbrev pub Below : List ℕ → List ℕ → Type 0
Below [] [] = ⊥
Below [] (y ∷ b) = Unit {0}
Below (x ∷ a) [] = ⊥
Below (x ∷ a) (y ∷ b) = (x < y) ⊎ ((x ≡ y) × Below a b)

pub below_irrefl : (a : List ℕ) → Below a a → ⊥
below_irrefl [] h = h
below_irrefl (x ∷ a) (inl less) = omega arith
below_irrefl (x ∷ a) (inr h) = below_irrefl a h.1

pub below_trans : (a b c : List ℕ) → Below a b → Below b c → Below a c
below_trans [] [] c p q = absurd p
below_trans [] (y ∷ b) [] p q = absurd q
below_trans [] (y ∷ b) (z ∷ c) p q = tt
below_trans (x ∷ a) [] c p q = absurd p
below_trans (x ∷ a) (y ∷ b) [] p q = absurd q
below_trans (x ∷ a) (y ∷ b) (z ∷ c) (inl p) (inl q) = inl (omega arith)
below_trans (x ∷ a) (y ∷ b) (z ∷ c) (inl p) (inr q) = inl (omega (arith, q.0))
below_trans (x ∷ a) (y ∷ b) (z ∷ c) (inr p) (inl q) = inl (omega (arith, p.0))
below_trans (x ∷ a) (y ∷ b) (z ∷ c) (inr p) (inr q) = inr (p.0 ∙ q.0, below_trans a b c p.1 q.1)

pub below_asym : (a b : List ℕ) → Below a b → Below b a → ⊥
below_asym a b p q = below_irrefl a (below_trans a b a p q)

pub above_below : (a b : List ℕ) → begins a b ≡ true → length a < length b → Below a b
above_below [] [] p q = absurd (omega arith)
above_below [] (y ∷ b) p q = tt
above_below (x ∷ a) [] p q = absurd (omega arith)
above_below (x ∷ a) (y ∷ b) p q = let parts = begins_parts x y a b p in inr (parts.0, above_below a b parts.1 (omega arith))

-- what begins the ends of an order begins what stands between
pub between_begins : (front a b c : List ℕ) → begins front a ≡ true → begins front c ≡ true → Below a b → Below b c → begins front b ≡ true
between_begins [] a b c p q low high = refl
between_begins (z ∷ front) [] b c p q low high = absurd (false≢true p)
between_begins (z ∷ front) (x ∷ a) [] c p q low high = absurd low
between_begins (z ∷ front) (x ∷ a) (y ∷ b) [] p q low high = absurd high
between_begins (z ∷ front) (x ∷ a) (y ∷ b) (w ∷ c) p q low high =
    let left = begins_parts z x front a p in
    let right = begins_parts z w front c q in
    squeezed low high left.0 right.0 (λ l h. between_begins front a b c left.1 right.1 l h)
  where
    squeezed : (x < y) ⊎ ((x ≡ y) × Below a b) → (y < w) ⊎ ((y ≡ w) × Below b c) → z ≡ x → z ≡ w → (Below a b → Below b c → begins front b ≡ true) → begins (z ∷ front) (y ∷ b) ≡ true
    squeezed (inl p) (inl q) left right rest = absurd (omega arith)
    squeezed (inl p) (inr q) left right rest = absurd (omega (arith, q.0))
    squeezed (inr p) (inl q) left right rest = absurd (omega (arith, p.0))
    squeezed (inr p) (inr q) left right rest = begins_from z y front b (left ∙ p.0) (rest p.1 q.1)

-- each string stands before those after it
abbrev pub Rising : List (List ℕ) → Type 0
Rising [] = Unit {0}
Rising (a ∷ rest) = AllByRecursion (Below a) rest × Rising rest

-- byte order is what `cmp` of two slices says
below_heads : (x y : ℕ) (rest : Ordering) (P : Type 0) → (rest ≡ Less → P) → ordering_then (nat_cmp x y) rest ≡ Less → (x < y) ⊎ ((x ≡ y) × P)
below_heads x y rest P tail e =
    elim (cases_order x y) [
      | inl same ↦ inr (same, tail (rw (eqb-at x y same, le-ltb x y (omega arith)) at e))
      | inr apart ↦ elim apart [
        | inl less ↦ inl less
        | inr more ↦ absurd (not_less (rw (le-ltb x y (omega arith), ne_eqb x y (λ s. omega arith)) at e))
      ]
    ]
  where
    eqb-at : (x y : ℕ) → x ≡ y → eqb x y ≡ true
    eqb-at x y s = eq-eqb x y s

    not_less : Greater ≡ Less → ⊥
    not_less e = cc

pub below_from_cmp : (a b : List ℕ) → slice_cmp nat_cmp a b ≡ Less → Below a b
below_from_cmp [] [] e = absurd (equal_less e)
  where
    equal_less : Equal ≡ Less → ⊥
    equal_less e = cc
below_from_cmp [] (y ∷ b) e = tt
below_from_cmp (x ∷ a) [] e = absurd (greater_less e)
  where
    greater_less : Greater ≡ Less → ⊥
    greater_less e = cc
below_from_cmp (x ∷ a) (y ∷ b) e = below_heads x y (slice_cmp nat_cmp a b) (Below a b) (below_from_cmp a b) e

pub cmp_from_below : (a b : List ℕ) → Below a b → slice_cmp nat_cmp a b ≡ Less
cmp_from_below [] [] h = absurd h
cmp_from_below [] (y ∷ b) h = refl
cmp_from_below (x ∷ a) [] h = absurd h
cmp_from_below (x ∷ a) (y ∷ b) (inl less) = rw (lt-ltb x y less) refl
cmp_from_below (x ∷ a) (y ∷ b) (inr h) = rw (le-ltb x y (omega (arith, h.0)), eq-eqb x y h.0) (cmp_from_below a b h.1)

all_weaker : {X : Type 0} (P Q : X → Type 0) → ((x : X) → P x → Q x) → (xs : List X) → AllByRecursion P xs → AllByRecursion Q xs
all_weaker P Q f [] all = tt
all_weaker P Q f (x ∷ xs) all = (f x all.0, all_weaker P Q f xs all.1)

pub rising_from_sorted : (texts : List (List ℕ)) → IsStrictlySortedBy (slice_cmp nat_cmp) texts → Rising texts
unfolding IsStrictlySortedBy
rising_from_sorted [] h = tt
rising_from_sorted (a ∷ rest) h = (all_weaker (λ b. slice_cmp nat_cmp a b ≡ Less) (Below a) (below_from_cmp a) rest h.0, rising_from_sorted rest h.1)

pub sorted_from_rising : (texts : List (List ℕ)) → Rising texts → IsStrictlySortedBy (slice_cmp nat_cmp) texts
unfolding IsStrictlySortedBy
sorted_from_rising [] h = tt
sorted_from_rising (a ∷ rest) h = (all_weaker (Below a) (λ b. slice_cmp nat_cmp a b ≡ Less) (cmp_from_below a) rest h.0, sorted_from_rising rest h.1)
