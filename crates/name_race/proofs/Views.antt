-- The offers and the passes of all racers, after a change of one racer or two.
use Rattle.std.proofs.Common.{◌≡◌, ◌≢◌, ℕ, zero, suc, ◌+◌, ◌≤◌, List, [], ◌∷◌, ◌++◌, set, refl, sym, ◌∙◌, ap, subst, arith, append_assoc, append-nil}
use mathlib.Core.Option.{some, some-injective, some-ne-none}
use lib.ListN.{get_elem?}
use Rattle.std.specs.List.Sorted.{IsPermutation}
use Rattle.std.proofs.lemmas.List.Sums.{sum_by-cons, sum_by-append}
use Rattle.std.proofs.lemmas.List.Concat.{flat_map-append}
use Rattle.std.proofs.lemmas.List.Sorted.{IsPermutation-refl, IsPermutation-sym, IsPermutation-trans, IsPermutation-append_right, IsPermutation-append_comm}
use Rattle.name_race.specs.declared.rule.View.{View}
use Rattle.name_race.specs.Rule.{offers_of, passes_of, spent_view}

pub passes_of-cons : (x : View) (xs : List View) → passes_of (x ∷ xs) ≡ x.passes + passes_of xs
passes_of-cons x xs = sum_by-cons (λ (v : View). v.passes) x xs

-- the passes after a change of one racer
pub passes_set : (views : List View) (id : ℕ) (v w : View) → get_elem? views id ≡ some v → passes_of (set views id w) + v.passes ≡ passes_of views + w.passes
passes_set [] id v w at = absurd (some-ne-none v (sym at))
passes_set (x ∷ xs) zero v w at = let e : x.passes ≡ v.passes = ap (λ (u : View). u.passes) (some-injective x v at) in omega (arith, passes_of-cons x xs, passes_of-cons w xs)
passes_set (x ∷ xs) (suc id) v w at = omega (arith, passes_set xs id v w at, passes_of-cons x xs, passes_of-cons x (set xs id w))

-- a list that equals another has the same elements
same : (xs ys : List (ℕ × ℕ)) → xs ≡ ys → IsPermutation xs ys
same xs ys e = subst (IsPermutation xs) e (IsPermutation-refl xs)

-- a + c + b has what a + b + c has
swapped : (a b c : List (ℕ × ℕ)) → IsPermutation ((a ++ b) ++ c) ((a ++ c) ++ b)
swapped a b c =
    IsPermutation-trans ((a ++ b) ++ c) (a ++ (b ++ c)) ((a ++ c) ++ b) (same ((a ++ b) ++ c) (a ++ (b ++ c)) (append_assoc a b c))
    (IsPermutation-trans (a ++ (b ++ c)) (a ++ (c ++ b)) ((a ++ c) ++ b) (IsPermutation-append_right a (b ++ c) (c ++ b) (IsPermutation-append_comm b c)) (same (a ++ (c ++ b)) ((a ++ c) ++ b) (sym (append_assoc a c b))))

-- the offers after one racer made more
pub offers_grow : (views : List View) (id : ℕ) (v w : View) (more : List (ℕ × ℕ)) → get_elem? views id ≡ some v → w.offers ≡ v.offers ++ more → IsPermutation (offers_of views ++ more) (offers_of (set views id w))
offers_grow [] id v w more at is = absurd (some-ne-none v (sym at))
offers_grow (x ∷ xs) zero v w more at is =
    let e : x.offers ≡ v.offers = ap (λ (u : View). u.offers) (some-injective x v at) in
    subst (λ l. IsPermutation ((x.offers ++ offers_of xs) ++ more) (l ++ offers_of xs)) (ap (λ l. l ++ more) e ∙ sym is) (swapped x.offers (offers_of xs) more)
offers_grow (x ∷ xs) (suc id) v w more at is =
    IsPermutation-trans ((x.offers ++ offers_of xs) ++ more) (x.offers ++ (offers_of xs ++ more)) (x.offers ++ offers_of (set xs id w)) (same ((x.offers ++ offers_of xs) ++ more) (x.offers ++ (offers_of xs ++ more)) (append_assoc x.offers (offers_of xs) more))
    (IsPermutation-append_right x.offers (offers_of xs ++ more) (offers_of (set xs id w)) (offers_grow xs id v w more at is))

-- the offers after one racer lost all that it made
pub offers_shrink : (views : List View) (id : ℕ) (w : View) → get_elem? views id ≡ some w → IsPermutation (offers_of (set views id spent_view) ++ w.offers) (offers_of views)
offers_shrink [] id w at = absurd (some-ne-none w (sym at))
offers_shrink (x ∷ xs) zero w at =
    let e : x.offers ≡ w.offers = ap (λ (u : View). u.offers) (some-injective x w at) in
    subst (λ l. IsPermutation (offers_of xs ++ w.offers) (l ++ offers_of xs)) (sym e) (IsPermutation-append_comm (offers_of xs) w.offers)
offers_shrink (x ∷ xs) (suc id) w at =
    IsPermutation-trans ((x.offers ++ offers_of (set xs id spent_view)) ++ w.offers) (x.offers ++ (offers_of (set xs id spent_view) ++ w.offers)) (x.offers ++ offers_of xs)
    (same ((x.offers ++ offers_of (set xs id spent_view)) ++ w.offers) (x.offers ++ (offers_of (set xs id spent_view) ++ w.offers)) (append_assoc x.offers (offers_of (set xs id spent_view)) w.offers))
    (IsPermutation-append_right x.offers (offers_of (set xs id spent_view) ++ w.offers) (offers_of xs) (offers_shrink xs id w at))

-- the offers after one racer took in another's
pub offers_move : (views : List View) (id other : ℕ) (v w both : View) → get_elem? views id ≡ some v → other ≢ id → get_elem? (set views id both) other ≡ some w → both.offers ≡ v.offers ++ w.offers
    → IsPermutation (offers_of views) (offers_of (set (set views id both) other spent_view))
offers_move [] id other v w both at apart there is = absurd (some-ne-none v (sym at))
offers_move (x ∷ xs) zero zero v w both at apart there is = absurd (apart refl)
offers_move (x ∷ xs) zero (suc other) v w both at apart there is =
    let e : x.offers ≡ v.offers = ap (λ (u : View). u.offers) (some-injective x v at) in
    let rest : List (ℕ × ℕ) = offers_of (set xs other spent_view) in
    let whole : IsPermutation (x.offers ++ offers_of xs) (x.offers ++ (rest ++ w.offers)) = IsPermutation-append_right x.offers (offers_of xs) (rest ++ w.offers) (IsPermutation-sym (rest ++ w.offers) (offers_of xs) (offers_shrink xs other w there)) in
    let moved : IsPermutation (x.offers ++ (rest ++ w.offers)) ((x.offers ++ w.offers) ++ rest) =
    IsPermutation-trans (x.offers ++ (rest ++ w.offers)) ((x.offers ++ rest) ++ w.offers) ((x.offers ++ w.offers) ++ rest) (same (x.offers ++ (rest ++ w.offers)) ((x.offers ++ rest) ++ w.offers) (sym (append_assoc x.offers rest w.offers))) (swapped x.offers rest w.offers) in
    subst (λ l. IsPermutation (x.offers ++ offers_of xs) (l ++ rest)) (ap (λ l. l ++ w.offers) e ∙ sym is) (IsPermutation-trans (x.offers ++ offers_of xs) (x.offers ++ (rest ++ w.offers)) ((x.offers ++ w.offers) ++ rest) whole moved)
offers_move (x ∷ xs) (suc id) zero v w both at apart there is =
    let e : x.offers ≡ w.offers = ap (λ (u : View). u.offers) (some-injective x w there) in
    let first : IsPermutation (x.offers ++ offers_of xs) (offers_of xs ++ x.offers) = IsPermutation-append_comm x.offers (offers_of xs) in
    let grown : IsPermutation (offers_of xs ++ x.offers) (offers_of (set xs id both)) = subst (λ l. IsPermutation (offers_of xs ++ l) (offers_of (set xs id both))) (sym e) (offers_grow xs id v both w.offers at is) in
    IsPermutation-trans (x.offers ++ offers_of xs) (offers_of xs ++ x.offers) (offers_of (set xs id both)) first grown
offers_move (x ∷ xs) (suc id) (suc other) v w both at apart there is =
    IsPermutation-append_right x.offers (offers_of xs) (offers_of (set (set xs id both) other spent_view)) (offers_move xs id other v w both at (λ h. apart (ap suc h)) there is)

-- one more racer, which has made no offers
pub offers_of-push : (views : List View) (w : View) → w.offers ≡ [] → offers_of (views ++ w ∷ []) ≡ offers_of views
offers_of-push views w none = flat_map-append (λ (v : View). v.offers) views (w ∷ []) ∙ (ap (λ l. offers_of views ++ (l ++ [])) none ∙ append-nil (offers_of views))

pub passes_of-push : (views : List View) (w : View) → passes_of (views ++ w ∷ []) ≡ passes_of views + w.passes
passes_of-push views w = omega (arith, sum_by-append (λ (v : View). v.passes) views (w ∷ []), passes_of-cons w [])

-- where no racer has passes, there are no offers
pub no_offers : (views : List View) → ((seat : ℕ) (u : View) → get_elem? views seat ≡ some u → u.passes ≡ 0 → u.offers ≡ []) → passes_of views ≡ 0 → offers_of views ≡ []
no_offers [] idle none = refl
no_offers (x ∷ xs) idle none =
    let one : x.offers ≡ [] = idle 0 x refl (omega (arith, passes_of-cons x xs)) in
    let rest : offers_of xs ≡ [] = no_offers xs (λ seat u at zero'. idle (suc seat) u at zero') (omega (arith, passes_of-cons x xs)) in
    subst (λ l. l ++ offers_of xs ≡ []) (sym one) rest

-- a racer's passes are among all
passes_le : (views : List View) (id : ℕ) (v : View) → get_elem? views id ≡ some v → v.passes ≤ passes_of views
passes_le [] id v at = absurd (some-ne-none v (sym at))
passes_le (x ∷ xs) zero v at = let e : x.passes ≡ v.passes = ap (λ (u : View). u.passes) (some-injective x v at) in omega (arith, passes_of-cons x xs)
passes_le (x ∷ xs) (suc id) v at = omega (arith, passes_le xs id v at, passes_of-cons x xs)

-- a racer with all passes has all offers
pub all_offers : (views : List View) (id : ℕ) (v : View) → ((seat : ℕ) (u : View) → get_elem? views seat ≡ some u → u.passes ≡ 0 → u.offers ≡ []) → get_elem? views id ≡ some v → passes_of views ≡ v.passes → offers_of views ≡ v.offers
all_offers [] id v idle at all = absurd (some-ne-none v (sym at))
all_offers (x ∷ xs) zero v idle at all =
    let e : x.offers ≡ v.offers = ap (λ (u : View). u.offers) (some-injective x v at) in
    let p : x.passes ≡ v.passes = ap (λ (u : View). u.passes) (some-injective x v at) in
    let rest : offers_of xs ≡ [] = no_offers xs (λ seat u at' zero'. idle (suc seat) u at' zero') (omega (arith, passes_of-cons x xs)) in
    subst (λ l. x.offers ++ l ≡ v.offers) (sym rest) (append-nil x.offers ∙ e)
all_offers (x ∷ xs) (suc id) v idle at all =
    let few : v.passes ≤ passes_of xs = passes_le xs id v at in
    let one : x.offers ≡ [] = idle 0 x refl (omega (arith, passes_of-cons x xs)) in
    let rest : offers_of xs ≡ v.offers = all_offers xs id v (λ seat u at' zero'. idle (suc seat) u at' zero') at (omega (arith, passes_of-cons x xs)) in
    subst (λ l. l ++ offers_of xs ≡ v.offers) (sym one) rest
