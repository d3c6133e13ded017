-- The first of the least names.
use Rattle.std.proofs.Common.{◌≡◌, ℕ, Bool, true, false, List, [], ◌∷◌, ◌++◌, refl, sym, ap, ◌∙◌, Some, None, if◌then◌else◌}
use Rattle.std.specs.Prelude.{fold}
use Rattle.std.specs.Cmp.Lexicographic.{slice_cmp}
use Rattle.std.proofs.lemmas.Cmp.{nat_list_cmp_total, tied_itself}
use Rattle.std.specs.List.{AllByRecursion}
use Rattle.std.specs.Ordering.{is_lt, nat_cmp}
use Rattle.std.specs.declared.cmp.Ordering.{Ordering}
use Rattle.std.specs.declared.cmp.Ordering.TheVariants.{Less, Equal, Greater}
use Rattle.std.proofs.lemmas.List.{append_assoc, append-nil}
use Rattle.list_lemmas.proofs.Members.{all_weaker}
use Rattle.liveness.specs.Undefined.{IsFirstLeast, least, lesser}

all_append : {X : Type 0} (P : X → Type 0) (xs ys : List X) → AllByRecursion P xs → AllByRecursion P ys → AllByRecursion P (xs ++ ys)
all_append P [] ys h k = k
all_append P (x ∷ xs) ys h k = (h.0, all_append P xs ys h.1 k)

-- what isn't less than a name is greater than a lesser one
greater : (x y q : List ℕ) → slice_cmp nat_cmp y q ≡ Less → is_lt (slice_cmp nat_cmp x q) ≡ false → slice_cmp nat_cmp x y ≡ Greater
greater x y q less not_less = by (slice_cmp nat_cmp x y) refl
  where
    clash : Ordering → slice_cmp nat_cmp x q ≡ Less → slice_cmp nat_cmp x y ≡ Greater
    clash o e = wrong (sym (ap is_lt e) ∙ not_less)
      where
        wrong : true ≡ false → slice_cmp nat_cmp x y ≡ Greater
        wrong f = cc

    by : (o : Ordering) → slice_cmp nat_cmp x y ≡ o → slice_cmp nat_cmp x y ≡ Greater
    by Less e = clash Less (nat_list_cmp_total.trans x y q e less)
    by Equal e = clash Equal (nat_list_cmp_total.congr x y q e ∙ less)
    by Greater e = e

is_less : (o : Ordering) → is_lt o ≡ true → o ≡ Less
is_less Less e = refl
is_less Equal e = cc
is_less Greater e = cc

step : (pairs : List (List ℕ × List ℕ)) (q y : List ℕ × List ℕ) (b : Bool) → is_lt (slice_cmp nat_cmp y.0 q.0) ≡ b → IsFirstLeast pairs q → IsFirstLeast (pairs ++ y ∷ []) (if b then y else q)
step pairs q y true e h =
    let less : slice_cmp nat_cmp y.0 q.0 ≡ Less = is_less (slice_cmp nat_cmp y.0 q.0) e in
    record {
      front = pairs;
      back = [];
      parts = refl;
      before = rw h.parts
          (all_append (λ x. slice_cmp nat_cmp x.0 y.0 ≡ Greater) h.front (q ∷ h.back)
          (all_weaker (λ x. slice_cmp nat_cmp x.0 q.0 ≡ Greater) (λ x. slice_cmp nat_cmp x.0 y.0 ≡ Greater) (λ x g. greater x.0 y.0 q.0 less (ap is_lt g)) h.front h.before) (
            greater q.0 y.0 q.0 less (self q.0),
            all_weaker (λ x. is_lt (slice_cmp nat_cmp x.0 q.0) ≡ false) (λ x. slice_cmp nat_cmp x.0 y.0 ≡ Greater) (λ x g. greater x.0 y.0 q.0 less g) h.back h.behind,
          ));
      behind = tt;
    }
  where
    self : (n : List ℕ) → is_lt (slice_cmp nat_cmp n n) ≡ false
    self n = ap is_lt (tied_itself nat_list_cmp_total n)
step pairs q y false e h = record {
  front = h.front;
  back = h.back ++ y ∷ [];
  parts = ap (λ ps. ps ++ y ∷ []) h.parts ∙ append_assoc h.front (q ∷ h.back) (y ∷ []);
  before = h.before;
  behind = all_append (λ x. is_lt (slice_cmp nat_cmp x.0 q.0) ≡ false) h.back (y ∷ []) h.behind (e, tt);
}

rest : (done left : List (List ℕ × List ℕ)) (q p : List ℕ × List ℕ) → IsFirstLeast done q → fold lesser (Some q) left ≡ Some p → IsFirstLeast (done ++ left) p
rest done [] q p h e = same (some_same q p e)
  where
    some_same : (a b : List ℕ × List ℕ) → Some a ≡ Some b → a ≡ b
    some_same a b f = cc

    same : q ≡ p → IsFirstLeast (done ++ []) p
    same f = rw (append-nil done, sym f) h
rest done (y ∷ left) q p h e = by (λ n next f. rest (done ++ y ∷ []) left n p next f) (is_lt (slice_cmp nat_cmp y.0 q.0)) refl
  where
    by : ((n : List ℕ × List ℕ) → IsFirstLeast (done ++ y ∷ []) n → fold lesser (Some n) left ≡ Some p → IsFirstLeast ((done ++ y ∷ []) ++ left) p) → (b : Bool) → is_lt (slice_cmp nat_cmp y.0 q.0) ≡ b → IsFirstLeast (done ++ y ∷ left) p
    by go true is = rw (sym (append_assoc done (y ∷ []) left)) (go y (step done q y true is h) (rw is at e))
    by go false is = rw (sym (append_assoc done (y ∷ []) left)) (go q (step done q y false is h) (rw is at e))

pub least_some : (pairs : List (List ℕ × List ℕ)) (p : List ℕ × List ℕ) → least pairs ≡ Some p → IsFirstLeast pairs p
unfolding least
least_some [] p e = cc
least_some (x ∷ xs) p e = rest (x ∷ []) xs x p (record { front = []; back = []; parts = refl; before = tt; behind = tt }) e

some_stays : (left : List (List ℕ × List ℕ)) (q : List ℕ × List ℕ) → fold lesser (Some q) left ≡ None → ⊥
some_stays [] q e = cc
some_stays (y ∷ left) q e = by (λ n f. some_stays left n f) (is_lt (slice_cmp nat_cmp y.0 q.0)) refl
  where
    by : ((n : List ℕ × List ℕ) → fold lesser (Some n) left ≡ None → ⊥) → (b : Bool) → is_lt (slice_cmp nat_cmp y.0 q.0) ≡ b → ⊥
    by go true is = go y (rw is at e)
    by go false is = go q (rw is at e)

pub least_none : (pairs : List (List ℕ × List ℕ)) → least pairs ≡ None → pairs ≡ []
unfolding least
least_none [] e = refl
least_none (x ∷ xs) e = absurd (some_stays xs x e)

pub ruleset leasts = (least_some, least_none)
