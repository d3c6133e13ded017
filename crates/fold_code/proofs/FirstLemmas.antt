-- The first of the keys that are equal.
use Rattle.std.proofs.Common.{◌≡◌, ℕ, zero, suc, ◌+◌, ◌<◌, ◌≤◌, Bool, true, false, List, [], ◌∷◌, ◌++◌, length, map, take, drop, get_or, refl, sym, ap, subst, ◌∙◌, arith, Option, Some, None}
use Rattle.std.specs.Prelude.{slice_get, slice_index}
use Rattle.std.specs.Option.{unwrap_or}
use Rattle.std.specs.Cmp.{IsEquivalence}
use Rattle.std.specs.HashMap.{HashMap, Updates, get}
use Rattle.std.proofs.lemmas.List.{map-append, take_all, take_more, take-append-drop, drop_more, length-map, length-take}
use Rattle.fold_code.specs.inner.Firsts.{AreFirsts, place, place_behind}

left_step : (b : Bool) (o p : Option ℕ) (n : ℕ) → ((m : ℕ) → o ≡ Some m → p ≡ Some m) → place_behind b o ≡ Some n → place_behind b p ≡ Some n
left_step true o p n rest e = e
left_step false None p n rest e = cc
left_step false (Some m) p n rest e = ap (place_behind false) (rest m refl) ∙ e

none_step : (b : Bool) (o p : Option ℕ) (n : ℕ) → (o ≡ None → p ≡ Some n) → place_behind b o ≡ None → place_behind b p ≡ Some (n + 1)
none_step true o p n rest e = cc
none_step false None p n rest e = ap (place_behind false) (rest refl)
none_step false (Some m) p n rest e = cc

pub place_left : {K : Type 0} (test : K → Bool) (xs ys : List K) (n : ℕ) → place test xs ≡ Some n → place test (xs ++ ys) ≡ Some n
unfolding place
place_left test [] ys n e = cc
place_left test (x ∷ xs) ys n e = left_step (test x) (place test xs) (place test (xs ++ ys)) n (place_left test xs ys) e

pub place_none : {K : Type 0} (test : K → Bool) (xs : List K) (y : K) (ys : List K) → place test xs ≡ None → test y ≡ true → place test (xs ++ y ∷ ys) ≡ Some (length xs)
unfolding place
place_none test [] y ys e is = ap (λ b. place_behind b (place test ys)) is
place_none test (x ∷ xs) y ys e is =
    let one : length xs + 1 ≡ suc (length xs) = omega arith in
    none_step (test x) (place test xs) (place test (xs ++ y ∷ ys)) (length xs) (λ f. place_none test xs y ys f is) e ∙ ap Some one

place_other : {K : Type 0} (test : K → Bool) (xs : List K) (y : K) → test y ≡ false → place test (xs ++ y ∷ []) ≡ place test xs
unfolding place
place_other test [] y is = ap (λ b. place_behind b None) is
place_other test (x ∷ xs) y is = ap (place_behind (test x)) (place_other test xs y is)

-- what is there, and that it is there
there_step : {K : Type 0} (test : K → Bool) (x : K) (xs : List K) (n : ℕ) (b : Bool) (o : Option ℕ) → test x ≡ b → ((m : ℕ) → o ≡ Some m → (y : K) × (slice_get xs m ≡ Some y) × (test y ≡ true)) → place_behind b o ≡ Some n
    → (y : K) × (slice_get (x ∷ xs) n ≡ Some y) × (test y ≡ true)
there_step test x xs n true o is rest e = let h : 0 ≡ n = cc in (x, ap (slice_get (x ∷ xs)) (sym h), is)
there_step test x xs n false None is rest e = cc
there_step test x xs n false (Some m) is rest e =
    let k : m + 1 ≡ n = cc in
    let s : n ≡ suc m = omega arith in
    let there = rest m refl in
    (there.0, ap (slice_get (x ∷ xs)) s ∙ there.1, there.2)

pub place_there : {K : Type 0} (test : K → Bool) (xs : List K) (n : ℕ) → place test xs ≡ Some n → (y : K) × (slice_get xs n ≡ Some y) × (test y ≡ true)
unfolding place
place_there test [] n e = cc
place_there test (x ∷ xs) n e = there_step test x xs n (test x) (place test xs) refl (place_there test xs) e

-- it is not behind one that passes
least_first : {K : Type 0} (test : K → Bool) (x y : K) (o : Option ℕ) → y ≡ x → test x ≡ true → (n : ℕ) × (place_behind (test y) o ≡ Some n) × (n ≤ 0)
least_first test x y o same is = (0, ap (λ b. place_behind b o) (ap test same ∙ is), omega arith)

least_step : (b : Bool) (o : Option ℕ) (a : ℕ) → (n : ℕ) × (o ≡ Some n) × (n ≤ a) → (n : ℕ) × (place_behind b o ≡ Some n) × (n ≤ suc a)
least_step true o a rest = (0, refl, omega arith)
least_step false o a rest = (rest.0 + 1, ap (place_behind false) rest.1, omega (arith, rest.2))

pub place_least : {K : Type 0} (test : K → Bool) (xs : List K) (a : ℕ) (x : K) → slice_get xs a ≡ Some x → test x ≡ true → (n : ℕ) × (place test xs ≡ Some n) × (n ≤ a)
unfolding place
place_least test [] a x e is = cc
place_least test (y ∷ xs) zero x e is = let same : y ≡ x = cc in least_first test x y (place test xs) same is
place_least test (y ∷ xs) (suc a) x e is = least_step (test y) (place test xs) a (place_least test xs a x e is)

place_same : {K : Type 0} (f g : K → Bool) (xs : List K) → ((x : K) → f x ≡ g x) → place f xs ≡ place g xs
unfolding place
place_same f g [] each = refl
place_same f g (x ∷ xs) each = let here = each x in let rest = place_same f g xs each in (λ i. place_behind (here i) (rest i))

-- ---- the loop

-- the places of the first keys so far
pub record AreSoFar {K S : Type 0} (E : K → K → Bool) (keys : List K) (places : HashMap K ℕ S) (firsts : List ℕ) (i : ℕ) : Type 0 where
  pub known : (q : K) → get E places q ≡ place (E q) (take i keys)
  pub told : firsts ≡ map (λ k. unwrap_or (place (E k) keys) 0) (take i keys)

unfold_start : {K : Type 0} (test : K → Bool) → None ≡ place test []
unfolding place
unfold_start test = refl

pub so_far_starts : {K S : Type 0} (E : K → K → Bool) (keys : List K) (places : HashMap K ℕ S) (firsts : List ℕ) → places.entries ≡ [] → firsts ≡ [] → AreSoFar E keys places firsts 0
so_far_starts E keys places firsts none empty = record {
  known = λ q. rw none (unfold_start (E q));
  told = empty;
}

split_at : {K : Type 0} (keys : List K) (i : ℕ) (k : K) → i < length keys → k ≡ get_or keys i k → keys ≡ take i keys ++ k ∷ drop (i + 1) keys
split_at keys i k low is = sym (take-append-drop i keys) ∙ ap (λ r. take i keys ++ r) (drop_more keys i k low ∙ ap (λ y. y ∷ drop (i + 1) keys) (sym is))

front_length : {K : Type 0} (keys : List K) (i : ℕ) → i < length keys → length (take i keys) ≡ i
front_length keys i low = omega (arith, length-take i keys)

first_is : {K : Type 0} {E : K → K → Bool} (laws : IsEquivalence E) (keys : List K) (i : ℕ) (k : K) → i < length keys → k ≡ get_or keys i k → (o : Option ℕ) → place (E k) (take i keys) ≡ o
    → unwrap_or o i ≡ unwrap_or (place (E k) keys) 0
first_is {E = E} laws keys i k low is None e =
    let whole : place (E k) keys ≡ Some (length (take i keys)) = ap (place (E k)) (split_at keys i k low is) ∙ place_none (E k) (take i keys) k (drop (i + 1) keys) e (laws.refl k) in
    sym (ap (λ (o : Option ℕ). unwrap_or o 0) whole ∙ front_length keys i low)
first_is {E = E} laws keys i k low is (Some n) e =
    let whole : place (E k) keys ≡ Some n = ap (place (E k)) (split_at keys i k low is) ∙ place_left (E k) (take i keys) (k ∷ drop (i + 1) keys) n e in
    sym (ap (λ (o : Option ℕ). unwrap_or o 0) whole)

known_more : {K S : Type 0} {E : K → K → Bool} (laws : IsEquivalence E) (keys : List K) (old new : HashMap K ℕ S) (i : ℕ) (k : K) → i < length keys → k ≡ get_or keys i k
    → ((q : K) → get E old q ≡ place (E q) (take i keys)) → Updates E old new k (Some (unwrap_or (get E old k) i)) → (q : K) → get E new q ≡ place (E q) (take (i + 1) keys)
known_more {E = E} laws keys old new i k low is known updates q = by (E k q) refl
  where
    more : take (i + 1) keys ≡ take i keys ++ k ∷ []
    more = take_more keys i k low ∙ ap (λ y. take i keys ++ y ∷ []) (sym is)

    found : (o : Option ℕ) → place (E k) (take i keys) ≡ o → E k q ≡ true → Some (unwrap_or o i) ≡ place (E q) (take i keys ++ k ∷ [])
    found None e same = sym (place_none (E q) (take i keys) k [] (place_same (E q) (E k) (take i keys) (λ x. sym (laws.congr k q x same)) ∙ e) (laws.symm q k ∙ same) ∙ ap Some (front_length keys i low))
    found (Some n) e same = sym (place_left (E q) (take i keys) (k ∷ []) n (place_same (E q) (E k) (take i keys) (λ x. sym (laws.congr k q x same)) ∙ e))

    by : (b : Bool) → E k q ≡ b → get E new q ≡ place (E q) (take (i + 1) keys)
    by true same =
        let here : get E new q ≡ Some (unwrap_or (get E old k) i) = updates.0 q ∙ rw same refl in
        here ∙ ap (λ (o : Option ℕ). Some (unwrap_or o i)) (known k) ∙ found (place (E k) (take i keys)) refl same ∙ ap (place (E q)) (sym more)
    by false other =
        let there : get E new q ≡ get E old q = updates.0 q ∙ rw other refl in
        there ∙ known q ∙ sym (ap (place (E q)) more ∙ place_other (E q) (take i keys) k (laws.symm q k ∙ other))

pub so_far_more : {K S : Type 0} {E : K → K → Bool} (laws : IsEquivalence E) (keys : List K) (old new : HashMap K ℕ S) (before after : List ℕ) (i first : ℕ) (k : K) → AreSoFar E keys old before i
    → i < length keys → k ≡ get_or keys i k → first ≡ unwrap_or (get E old k) i → Updates E old new k (Some first) → after ≡ before ++ first ∷ [] → AreSoFar E keys new after (i + 1)
so_far_more {E = E} laws keys old new before after i first k far low is told updates more = record {
  known = known_more laws keys old new i k low is far.known (subst (λ (n : ℕ). Updates E old new k (Some n)) told updates);
  told =
      more ∙ ap (λ (xs : List ℕ). xs ++ first ∷ []) far.told
      ∙ ap (λ (n : ℕ). map (λ x. unwrap_or (place (E x) keys) 0) (take i keys) ++ n ∷ []) (told ∙ ap (λ (o : Option ℕ). unwrap_or o i) (far.known k) ∙ first_is laws keys i k low is (place (E k) (take i keys)) refl)
      ∙ sym (ap (map (λ x. unwrap_or (place (E x) keys) 0)) (take_more keys i k low ∙ ap (λ y. take i keys ++ y ∷ []) (sym is)) ∙ map-append (λ x. unwrap_or (place (E x) keys) 0) (take i keys) (k ∷ []));
}

-- ---- the end

index_map : {K : Type 0} (f : K → ℕ) (xs : List K) (a : ℕ) (x : K) → slice_get xs a ≡ Some x → slice_index (map f xs) a ≡ f x
index_map f [] a x e = cc
index_map f (y ∷ xs) zero x e = let same : y ≡ x = cc in ap f same
index_map f (y ∷ xs) (suc a) x e = index_map f xs a x e

pub at_end : {K : Type 0} {E : K → K → Bool} (laws : IsEquivalence E) (keys : List K) → AreFirsts E keys (map (λ k. unwrap_or (place (E k) keys) 0) keys)
at_end {K = K} {E = E} laws keys = record {
  each = length-map keys first;
  there = λ a x e.
      let it = place_least (E x) keys a x e (laws.refl x) in
      let one = place_there (E x) keys it.0 it.1 in
      let n : slice_index (map first keys) a ≡ it.0 = index_map first keys a x e ∙ ap (λ (o : Option ℕ). unwrap_or o 0) it.1 in
      record { one = one.0; there = ap (slice_get keys) n ∙ one.1; equal = one.2 };
  same = λ a b x y e f is.
      index_map first keys a x e ∙ ap (λ (o : Option ℕ). unwrap_or o 0) (place_same (E x) (E y) keys (λ z. laws.congr x y z is)) ∙ sym (index_map first keys b y f);
  least = λ a x e.
      let it = place_least (E x) keys a x e (laws.refl x) in
      let n : slice_index (map first keys) a ≡ it.0 = index_map first keys a x e ∙ ap (λ (o : Option ℕ). unwrap_or o 0) it.1 in
      omega (arith, it.2);
}
  where
    first : K → ℕ
    first k = unwrap_or (place (E k) keys) 0

pub so_far_ends : {K S : Type 0} {E : K → K → Bool} (laws : IsEquivalence E) (keys : List K) (places : HashMap K ℕ S) (firsts : List ℕ) (i : ℕ) → AreSoFar E keys places firsts i → length keys ≤ i → AreFirsts E keys firsts
so_far_ends {E = E} laws keys places firsts i far past =
    let same : firsts ≡ map (λ k. unwrap_or (place (E k) keys) 0) keys = far.told ∙ ap (map (λ k. unwrap_or (place (E k) keys) 0)) (take_all i keys past) in
    subst (AreFirsts E keys) (sym same) (at_end laws keys)
