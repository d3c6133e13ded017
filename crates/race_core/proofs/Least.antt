-- The least word of one name is the greatest number that is above none of its words.
use Rattle.std.proofs.Common.{◌≡◌, ℕ, zero, suc, ◌<◌, ◌≤◌, ◌⊎◌, true, false, cond, eqb, min, List, [], ◌∷◌, ◌++◌, map, refl, sym, ◌∙◌, ap, subst, inl, inr, ⊎_elim, le_refl, le_trans, arith, eq-eqb}
use Rattle.std.proofs.Math.Nat.{min-le_left, min-le_right, le-min}
use Rattle.std.specs.List.{All, Contains, filter, fold}
use Rattle.std.proofs.lemmas.Bool.{cond_both, cases_lt, eqb-true, cond-true}
use Rattle.std.proofs.lemmas.List.{map-append}
use Rattle.std.proofs.lemmas.List.Elements.{All-nil, All-cons, All-head, All-tail, filter-append, All-contains}
use Rattle.std.proofs.lemmas.List.Sums.{fold-append}
use Rattle.race_core.specs.Run.{least_word, words_for}

-- the word after one more offer
abbrev pub after : ℕ → ℕ → ℕ × ℕ → ℕ
after n w b = cond (eqb b.0 n) (min w b.1) w

pub least_word-cons : (n w : ℕ) (b : ℕ × ℕ) (bs : List (ℕ × ℕ)) → least_word n w (b ∷ bs) ≡ least_word n (after n w b) bs
unfolding least_word
least_word-cons n w b bs =
    elim (eqb b.0 n) as (λ t. fold min w (map (λ (c : ℕ × ℕ). c.1) (cond t (b ∷ filter (λ c. eqb c.0 n) bs) (filter (λ c. eqb c.0 n) bs))) ≡ fold min (cond t (min w b.1) w) (words_for n bs)) [ true ↦ refl | false ↦ refl ]

pub least_word-nil : (n w : ℕ) → least_word n w [] ≡ w
unfolding least_word
least_word-nil n w = refl

pub least_word-append : (n w : ℕ) (xs ys : List (ℕ × ℕ)) → least_word n w (xs ++ ys) ≡ least_word n (least_word n w xs) ys
unfolding least_word
least_word-append n w xs ys =
    ap (λ bs. fold min w (map (λ (c : ℕ × ℕ). c.1) bs)) (filter-append (λ c. eqb c.0 n) xs ys)
    ∙ (ap (λ ws. fold min w ws) (map-append (λ (c : ℕ × ℕ). c.1) (filter (λ c. eqb c.0 n) xs) (filter (λ c. eqb c.0 n) ys)) ∙ fold-append min w (words_for n xs) (words_for n ys))

after-le : (n w : ℕ) (b : ℕ × ℕ) → after n w b ≤ w
after-le n w b = cond_both (eqb b.0 n) (min w b.1) w (λ x. x ≤ w) (λ _. min-le_left w b.1) (λ _. le_refl w)

after-le_offer : (n w : ℕ) (b : ℕ × ℕ) → b.0 ≡ n → after n w b ≤ b.1
after-le_offer n w b e = subst (λ x. x ≤ b.1) (sym (cond-true (eqb b.0 n) (min w b.1) w (eq-eqb b.0 n e))) (min-le_right w b.1)

-- it isn't above the word at the start
pub least_word-le : (bs : List (ℕ × ℕ)) (n w : ℕ) → least_word n w bs ≤ w
least_word-le [] n w = subst (λ x. x ≤ w) (sym (least_word-nil n w)) (le_refl w)
least_word-le (b ∷ bs) n w = subst (λ x. x ≤ w) (sym (least_word-cons n w b bs)) (le_trans (least_word-le bs n (after n w b)) (after-le n w b))

-- nor above a word that is offered
pub least_word-le_all : (bs : List (ℕ × ℕ)) (n w : ℕ) → All (λ b. b.0 ≡ n → least_word n w bs ≤ b.1) bs
least_word-le_all [] n w = All-nil (λ (b : ℕ × ℕ). b.0 ≡ n → least_word n w [] ≤ b.1)
least_word-le_all (b ∷ bs) n w =
    let P : ℕ → ℕ × ℕ → Type 0 = λ k c. c.0 ≡ n → k ≤ c.1 in
    subst (λ k. All (P k) (b ∷ bs)) (sym (least_word-cons n w b bs))
    (All-cons (P (least_word n (after n w b) bs)) b bs (λ e. le_trans (least_word-le bs n (after n w b)) (after-le_offer n w b e)) (least_word-le_all bs n (after n w b)))

pub least_word-le_offer : (bs : List (ℕ × ℕ)) (n w x : ℕ) → Contains bs (n, x) → least_word n w bs ≤ x
least_word-le_offer bs n w x has = All-contains (λ b. b.0 ≡ n → least_word n w bs ≤ b.1) bs (n, x) (least_word-le_all bs n w) has refl

-- and no greater number is above none of them
pub le-least_word : (bs : List (ℕ × ℕ)) (n w k : ℕ) → k ≤ w → All (λ b. b.0 ≡ n → k ≤ b.1) bs → k ≤ least_word n w bs
le-least_word [] n w k h all = subst (λ x. k ≤ x) (sym (least_word-nil n w)) h
le-least_word (b ∷ bs) n w k h all =
    let P : ℕ × ℕ → Type 0 = λ c. c.0 ≡ n → k ≤ c.1 in
    let first : b.0 ≡ n → k ≤ b.1 = All-head P b bs all in
    let one : k ≤ after n w b = cond_both (eqb b.0 n) (min w b.1) w (λ x. k ≤ x) (λ t. le-min h (first (eqb-true b.0 n t))) (λ _. h) in
    subst (λ x. k ≤ x) (sym (least_word-cons n w b bs)) (le-least_word bs n (after n w b) k one (All-tail P b bs all))

min_is_one : (a b : ℕ) → (min a b ≡ a) ⊎ (min a b ≡ b)
min_is_one a b = ⊎_elim (λ (h : a < b). inl (omega arith)) (λ (h : b ≤ a). inr (omega arith)) (cases_lt a b)

Contains-cons : (b c : ℕ × ℕ) (bs : List (ℕ × ℕ)) → Contains bs c → Contains (b ∷ bs) c
Contains-cons b c bs has = (suc has.0, omega arith, has.2)

-- and it is one of them
pub least_word-one : (bs : List (ℕ × ℕ)) (n w : ℕ) → (least_word n w bs ≡ w) ⊎ Contains bs (n, least_word n w bs)
least_word-one [] n w = inl (least_word-nil n w)
least_word-one (b ∷ bs) n w = subst (λ k. (k ≡ w) ⊎ Contains (b ∷ bs) (n, k)) (sym (least_word-cons n w b bs)) (⊎_elim here (λ has. inr (Contains-cons b (n, least_word n (after n w b) bs) bs has)) (least_word-one bs n (after n w b)))
  where
    k : ℕ
    k = least_word n (after n w b) bs

    one : (after n w b ≡ w) ⊎ ((b.0 ≡ n) × (after n w b ≡ b.1))
    one = cond_both (eqb b.0 n) (min w b.1) w (λ x. (x ≡ w) ⊎ ((b.0 ≡ n) × (x ≡ b.1))) (λ t. ⊎_elim (λ (m : min w b.1 ≡ w). inl m) (λ (m : min w b.1 ≡ b.1). inr (eqb-true b.0 n t, m)) (min_is_one w b.1)) (λ _. inl refl)

    here : least_word n (after n w b) bs ≡ after n w b → (least_word n (after n w b) bs ≡ w) ⊎ Contains (b ∷ bs) (n, least_word n (after n w b) bs)
    here e = ⊎_elim (λ (s : after n w b ≡ w). inl (e ∙ s)) (λ (s : (b.0 ≡ n) × (after n w b ≡ b.1)). inr (zero, omega arith, (λ i. (s.0 i, sym (e ∙ s.1) i)))) one
