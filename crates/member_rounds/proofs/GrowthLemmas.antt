-- Files that come round by round.
use Rattle.std.proofs.Common.{◌≡◌, ℕ, zero, suc, ◌+◌, ◌-◌, ◌==◌, ◌&&◌, ◌<◌, ◌≤◌, ◌⊎◌, Bool, true, false, ◌||◌, List, [], ◌∷◌, length, filter, Contains, refl, sym, ap, subst, ◌∙◌, inl, inr, ap₂, eq-eqb, eqb-true, zero-add, add-one, arith}
use Rattle.list_lemmas.proofs.Members.{In, any_from_in, any_true, from_filter, in_filter, in_from_Contains, Contains_from_in}
use Rattle.mo_types.specs.declared.key.FileId.{FileId}
use Rattle.member_rounds.specs.Growth.{after, is_in, same_file, union}

-- a weaker test keeps the same elements, or more
same_or_more : {X : Type 0} (p q : X → Bool) (xs : List X) → ((x : X) → In x xs → p x ≡ true → q x ≡ true) → (filter p xs ≡ filter q xs) ⊎ (length (filter p xs) < length (filter q xs))
same_or_more p q [] weaker = inl refl
same_or_more {X = X} p q (x ∷ xs) weaker = by (same_or_more p q xs (λ y there. weaker y (inr there))) (p x) (q x) refl refl
  where
    by : (filter p xs ≡ filter q xs) ⊎ (length (filter p xs) < length (filter q xs)) → (a b : Bool) → p x ≡ a → q x ≡ b → (filter p (x ∷ xs) ≡ filter q (x ∷ xs)) ⊎ (length (filter p (x ∷ xs)) < length (filter q (x ∷ xs)))
    by rest true true pa qb = rw (pa, qb) (elim rest [
      | inl same ↦ inl (ap (λ (ys : List X). x ∷ ys) same)
      | inr less ↦ inr (omega (arith, less))
    ])
    by rest true false pa qb = absurd (let e : true ≡ false = sym (weaker x (inl refl) pa) ∙ qb in cc)
    by rest false true pa qb = rw (pa, qb) (elim rest [
      | inl same ↦ inr (rw same (omega arith))
      | inr less ↦ inr (omega (arith, less))
    ])
    by rest false false pa qb = rw (pa, qb) rest

at_most : {X : Type 0} (p : X → Bool) (xs : List X) → length (filter p xs) ≤ length xs
at_most p [] = omega arith
at_most p (x ∷ xs) = by (at_most p xs) (p x) refl
  where
    by : length (filter p xs) ≤ length xs → (b : Bool) → p x ≡ b → length (filter p (x ∷ xs)) ≤ length (x ∷ xs)
    by rest true e = rw e (omega (arith, rest))
    by rest false e = rw e (omega (arith, rest))

or_first : (a b : Bool) → a ≡ true → (a || b) ≡ true
or_first true b e = refl
or_first false b e = cc

or_second : (a b : Bool) → b ≡ true → (a || b) ≡ true
or_second true b e = refl
or_second false b e = e

eq_number : (m n : ℕ) → (m == n) ≡ true → m ≡ n
eq_number m n is = eqb-true m n is

both : (a b : Bool) → (a && b) ≡ true → (a ≡ true) × (b ≡ true)
both true b e = (refl, e)
both false b e = cc

pub same_itself : (file : FileId) → same_file file file ≡ true
same_itself file = rw (eq-eqb file.position file.position refl, eq-eqb file.member file.member refl) refl

pub same_is : (a b : FileId) → same_file a b ≡ true → a ≡ b
same_is a b is =
    let parts = both (a.position == b.position) (a.member == b.member) is in
    ap₂ (λ (p m : ℕ). record { position = p; member = m }) (eq_number a.position b.position parts.0) (eq_number a.member b.member parts.1)

pub has_from_in : (xs : List FileId) (x : FileId) → In x xs → is_in xs x ≡ true
has_from_in xs x there = any_from_in (same_file x) xs x there (same_itself x)

pub in_from_has : (xs : List FileId) (x : FileId) → is_in xs x ≡ true → In x xs
in_from_has xs x is = let found = any_true (same_file x) xs is in subst (λ (y : FileId). In y xs) (sym (same_is x found.0 found.2)) found.1

module _ (all : List FileId) (first : FileId → Bool) (asks : List FileId → FileId → Bool) where
  abbrev set : ℕ → List FileId
  set k = after all first asks k

  abbrev test_after : List FileId → FileId → Bool
  test_after xs x = is_in xs x || asks xs x

  at_first : set zero ≡ filter first all
  unfolding after
  at_first = refl

  then : (k : ℕ) → set (suc k) ≡ filter (test_after (set k)) all
  unfolding after
  then k = refl

  within : (k : ℕ) (x : FileId) → In x (set k) → In x all
  within zero x there = (from_filter first all x (subst (λ (xs : List FileId). In x xs) at_first there)).0
  within (suc k) x there = (from_filter (test_after (set k)) all x (subst (λ (xs : List FileId). In x xs) (then k) there)).0

  takes : (k : ℕ) (x : FileId) → In x all → test_after (set k) x ≡ true → In x (set (suc k))
  takes k x there is = subst (λ (xs : List FileId). In x xs) (sym (then k)) (in_filter (test_after (set k)) all x there is)

  keeps : (k : ℕ) (x : FileId) → In x (set k) → In x (set (suc k))
  keeps k x there = takes k x (within k x there) (or_first (is_in (set k) x) (asks (set k) x) (has_from_in (set k) x there))

  grows_by : (p : FileId → Bool) (k : ℕ) → set k ≡ filter p all → (set k ≡ set (suc k)) ⊎ (length (set k) < length (set (suc k)))
  grows_by p k is = elim (same_or_more p (test_after (set k)) all (λ x there passes. or_first (is_in (set k) x) (asks (set k) x) (has_from_in (set k) x (subst (λ (xs : List FileId). In x xs) (sym is) (in_filter p all x there passes))))) [
    | inl same ↦ inl (is ∙ same ∙ sym (then k))
    | inr less ↦ inr (omega (arith, less, ap length is, ap length (then k)))
  ]

  grows : (k : ℕ) → (set k ≡ set (suc k)) ⊎ (length (set k) < length (set (suc k)))
  grows zero = grows_by first zero at_first
  grows (suc k) = grows_by (test_after (set k)) (suc k) (then k)

  stays : (k : ℕ) → set k ≡ set (suc k) → set (suc k) ≡ set (suc (suc k))
  stays k same_sets = then k ∙ ap (λ (xs : List FileId). filter (test_after xs) all) same_sets ∙ sym (then (suc k))

  ended_or_long : (k : ℕ) → (set k ≡ set (suc k)) ⊎ (k < length (set (suc k)))
  ended_or_long zero = elim (grows zero) [
    | inl e ↦ inl e
    | inr less ↦ inr (omega (arith, less))
  ]
  ended_or_long (suc k) = elim (ended_or_long k) [
    | inl e ↦ inl (stays k e)
    | inr long ↦ elim (grows (suc k)) [
      | inl e ↦ inl e
      | inr less ↦ inr (omega (arith, less, long))
    ]
  ]

  ended : set (length all) ≡ set (suc (length all))
  ended = elim (ended_or_long (length all)) [
    | inl e ↦ e
    | inr long ↦ absurd (omega (arith, long, ap length (then (length all)), at_most (test_after (set (length all))) all))
  ]

  ended_after : (j : ℕ) → set (j + length all) ≡ set (suc (j + length all))
  ended_after zero = ap set (zero-add (length all)) ∙ ended ∙ ap (λ (n : ℕ). set (suc n)) (sym (zero-add (length all)))
  ended_after (suc j) = let e : suc j + length all ≡ suc (j + length all) = omega arith in ap set e ∙ stays (j + length all) (ended_after j) ∙ ap (λ (n : ℕ). set (suc n)) (sym e)

  last : (j : ℕ) → set (j + length all) ≡ set (length all)
  last zero = ap set (zero-add (length all))
  last (suc j) = let e : suc j + length all ≡ suc (j + length all) = omega arith in ap set e ∙ sym (ended_after j) ∙ last j

  union_is : union all first asks ≡ set (length all)
  unfolding union
  union_is = refl

  reason : (k : ℕ) (x : FileId) → In x (set k) → (first x ≡ true) ⊎ ((j : ℕ) × (j < k) × (asks (set j) x ≡ true))
  reason zero x there = inl ((from_filter first all x (subst (λ (xs : List FileId). In x xs) at_first there)).1)
  reason (suc k) x there = by (λ before. reason k x before) (is_in (set k) x) refl
    where
      by : (In x (set k) → (first x ≡ true) ⊎ ((j : ℕ) × (j < k) × (asks (set j) x ≡ true))) → (b : Bool) → is_in (set k) x ≡ b → (first x ≡ true) ⊎ ((j : ℕ) × (j < suc k) × (asks (set j) x ≡ true))
      by earlier true e = elim (earlier (in_from_has (set k) x e)) [
        | inl f ↦ inl f
        | inr r ↦ inr (r.0, omega (arith, r.1), r.2)
      ]
      by earlier false e =
          let passes : test_after (set k) x ≡ true = (from_filter (test_after (set k)) all x (subst (λ (xs : List FileId). In x xs) (then k) there)).1 in
          inr (k, omega arith, rw e at passes)

-- ---- the laws

pub round_within : (all : List FileId) (first : FileId → Bool) (asks : List FileId → FileId → Bool) (k : ℕ) (file : FileId) → Contains (after all first asks k) file → Contains all file
round_within all first asks k file there = Contains_from_in all file (within all first asks k file (in_from_Contains (after all first asks k) file there))

pub round_keeps : (all : List FileId) (first : FileId → Bool) (asks : List FileId → FileId → Bool) (k : ℕ) (file : FileId) → Contains (after all first asks k) file → Contains (after all first asks (k + 1)) file
round_keeps all first asks k file there = rw (add-one k) (Contains_from_in (after all first asks (suc k)) file (keeps all first asks k file (in_from_Contains (after all first asks k) file there)))

pub round_ends : (all : List FileId) (first : FileId → Bool) (asks : List FileId → FileId → Bool) (k : ℕ) → length all ≤ k → after all first asks k ≡ union all first asks
round_ends all first asks k past =
    let e : k ≡ (k - length all) + length all = omega (arith, past) in
    ap (after all first asks) e ∙ last all first asks (k - length all) ∙ sym (union_is all first asks)

pub round_closed : (all : List FileId) (first : FileId → Bool) (asks : List FileId → FileId → Bool) (file : FileId) → Contains all file → asks (union all first asks) file ≡ true → Contains (union all first asks) file
round_closed all first asks file there is =
    let n : ℕ = length all in
    let now : asks (after all first asks n) file ≡ true = subst (λ (xs : List FileId). asks xs file ≡ true) (union_is all first asks) is in
    let taken : In file (after all first asks (suc n)) = takes all first asks n file (in_from_Contains all file there) (or_second (is_in (after all first asks n) file) (asks (after all first asks n) file) now) in
    Contains_from_in (union all first asks) file (subst (λ (xs : List FileId). In file xs) (sym (ended all first asks) ∙ sym (union_is all first asks)) taken)

pub round_reason : (all : List FileId) (first : FileId → Bool) (asks : List FileId → FileId → Bool) (k : ℕ) (file : FileId) → Contains (after all first asks k) file → (first file ≡ true) ⊎ ((j : ℕ) × (j < k) × (asks (after all first asks j) file ≡ true))
round_reason all first asks k file there = reason all first asks k file (in_from_Contains (after all first asks k) file there)

pub ruleset rounds = (round_within, round_keeps, round_ends, round_closed, round_reason)
