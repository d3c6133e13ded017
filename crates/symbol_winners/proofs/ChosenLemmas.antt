-- The winning candidates of a table, one by one.
use Rattle.std.proofs.Common.{◌≡◌, ℕ, ◌+◌, ◌<◌, ◌≤◌, List, [], ◌∷◌, ◌++◌, length, take, get_or, refl, sym, ap, ◌∙◌, Some, None, ◌≢◌, arith}
use Rattle.std.specs.Prelude.{Option}
use Rattle.std.specs.List.{filter_map}
use Rattle.std.proofs.lemmas.List.{take_all, take_more}
use Rattle.symbol_winners.specs.declared.best.Best.{Best}
use Rattle.symbol_winners.specs.declared.chosen.Chosen.{Chosen}
use Rattle.symbol_winners.specs.inner.Best.{chosen_of, the_chosen}

pub filter_map_more : {X Y : Type 0} (f : X → Option Y) (xs : List X) (x : X) (y : Y) → f x ≡ Some y → filter_map f (xs ++ x ∷ []) ≡ filter_map f xs ++ y ∷ []
filter_map_more f [] x y is = rw is refl
filter_map_more {Y = Y} f (z ∷ zs) x y is = by (filter_map_more f zs x y is) (f z) refl
  where
    by : filter_map f (zs ++ x ∷ []) ≡ filter_map f zs ++ y ∷ [] → (o : Option Y) → f z ≡ o → filter_map f ((z ∷ zs) ++ x ∷ []) ≡ filter_map f (z ∷ zs) ++ y ∷ []
    by rest None e = rw e rest
    by rest (Some w) e = rw e (ap (λ (ys : List Y). w ∷ ys) rest)

pub filter_map_pass : {X Y : Type 0} (f : X → Option Y) (xs : List X) (x : X) → f x ≡ None → filter_map f (xs ++ x ∷ []) ≡ filter_map f xs
filter_map_pass f [] x is = rw is refl
filter_map_pass {Y = Y} f (z ∷ zs) x is = by (filter_map_pass f zs x is) (f z) refl
  where
    by : filter_map f (zs ++ x ∷ []) ≡ filter_map f zs → (o : Option Y) → f z ≡ o → filter_map f ((z ∷ zs) ++ x ∷ []) ≡ filter_map f (z ∷ zs)
    by rest None e = rw e rest
    by rest (Some w) e = rw e (ap (λ (ys : List Y). w ∷ ys) rest)

-- no more are chosen than there are
pub filter_map_few : {X Y : Type 0} (f : X → Option Y) (xs : List X) → length (filter_map f xs) ≤ length xs
filter_map_few f [] = omega arith
filter_map_few {Y = Y} f (x ∷ xs) = by (filter_map_few f xs) (f x) refl
  where
    by : length (filter_map f xs) ≤ length xs → (o : Option Y) → f x ≡ o → length (filter_map f (x ∷ xs)) ≤ length (x ∷ xs)
    by rest None e = rw e (omega (arith, rest))
    by rest (Some y) e = rw e (omega (arith, rest))

pub chosen_start : (list : List Chosen) (table : List Best) → list ≡ [] → list ≡ filter_map chosen_of (take 0 table)
chosen_start list table none = none

pub chosen_add : (list new : List Chosen) (table : List Best) (i : ℕ) (best d : Best) (chosen : Chosen) → i < length table → best ≡ get_or table i d → list ≡ filter_map chosen_of (take i table) → Some chosen ≡ chosen_of best → new ≡ list ++ chosen ∷ [] → new ≡ filter_map chosen_of (take (i + 1) table)
chosen_add list new table i best d chosen low is before one more =
    more ∙ ap (λ ys. ys ++ chosen ∷ []) before
    ∙ sym (ap (filter_map chosen_of) (take_more table i d low ∙ ap (λ b. take i table ++ b ∷ []) (sym is)) ∙ filter_map_more chosen_of (take i table) best chosen (sym one))

pub chosen_pass : (list : List Chosen) (table : List Best) (i : ℕ) (best d : Best) → i < length table → best ≡ get_or table i d → list ≡ filter_map chosen_of (take i table) → None ≡ chosen_of best → list ≡ filter_map chosen_of (take (i + 1) table)
chosen_pass list table i best d low is before none =
    before ∙ sym (ap (filter_map chosen_of) (take_more table i d low ∙ ap (λ b. take i table ++ b ∷ []) (sym is)) ∙ filter_map_pass chosen_of (take i table) best (sym none))

pub chosen_end : (list : List Chosen) (table : List Best) (i : ℕ) → length table ≤ i → list ≡ filter_map chosen_of (take i table) → list ≡ filter_map chosen_of table
chosen_end list table i past before = before ∙ ap (filter_map chosen_of) (take_all i table past)

pub ruleset choosing = (chosen_start, chosen_add, chosen_pass, chosen_end)

-- ---- what has a winner

pub chosen_there : (chosen : Option Chosen) (has : chosen ≢ None) → Some (the_chosen chosen has) ≡ chosen
unfolding the_chosen
chosen_there None has = absurd (has refl)
chosen_there (Some chosen) has = refl

pub the_chosen_is : (chosen : Option Chosen) (has : chosen ≢ None) (one : Chosen) → Some one ≡ chosen → one ≡ the_chosen chosen has
unfolding the_chosen
the_chosen_is None has one is = cc
the_chosen_is (Some chosen) has one is = cc

pub ruleset sures = (chosen_there, the_chosen_is)

-- a list taken out one by one
pub out_start : {X : Type 0} (out list : List X) → out ≡ [] → out ≡ take 0 list
out_start out list none = none

pub out_more : {X : Type 0} (out new list : List X) (i : ℕ) (x d : X) → i < length list → x ≡ get_or list i d → out ≡ take i list → new ≡ out ++ x ∷ [] → new ≡ take (i + 1) list
out_more out new list i x d low is before more =
    more ∙ ap (λ ys. ys ++ x ∷ []) before
    ∙ sym (take_more list i d low ∙ ap (λ y. take i list ++ y ∷ []) (sym is))

pub out_end : {X : Type 0} (out list : List X) (i : ℕ) → length list ≤ i → out ≡ take i list → out ≡ list
out_end out list i past before = before ∙ take_all i list past

pub ruleset taking_out = (out_start, out_more, out_end)
