-- What the places of first keys say.
use Rattle.std.proofs.Common.{◌≡◌, ℕ, zero, suc, ◌<◌, ◌≤◌, Bool, true, List, [], ◌∷◌, length, map, refl, sym, ap, subst, ◌∙◌, arith, Option, Some, None}
use Rattle.std.specs.Prelude.{slice_get, slice_index}
use Rattle.std.specs.Option.{option_map}
use Rattle.std.specs.Cmp.{IsEquivalence}
use Rattle.std.proofs.lemmas.List.{length-map}
use Rattle.std.proofs.lemmas.Option.{slice_get-map}
use Rattle.fold_code.specs.Fold.{partition_of}
use Rattle.fold_code.specs.inner.Firsts.{AreFirsts}
use Rattle.fold_code.specs.inner.Rounds.{AreFirstNumbers}

pub at_within : {X : Type 0} (xs : List X) (a : ℕ) → a < length xs → (x : X) × (slice_get xs a ≡ Some x)
at_within [] a low = absurd (omega arith)
at_within (x ∷ xs) zero low = (x, refl)
at_within (x ∷ xs) (suc a) low = at_within xs a (omega arith)

mapped : {K X : Type 0} (f : K → X) (o : Option K) (x : X) → option_map f o ≡ Some x → (k : K) × (o ≡ Some k) × (f k ≡ x)
mapped f None x e = cc
mapped f (Some k) x e = let same : f k ≡ x = cc in (k, refl, same)

key_at : {K X : Type 0} (f : K → X) (keys : List K) (a : ℕ) (x : X) → slice_get (map f keys) a ≡ Some x → (k : K) × (slice_get keys a ≡ Some k) × (f k ≡ x)
key_at f keys a x e = mapped f (slice_get keys a) x (sym (slice_get-map f keys a) ∙ e)

-- of keys by what they hold
pub held : {K X : Type 0} (f : K → X) (E : X → X → Bool) (keys : List K) (xs : List X) (firsts : List ℕ) → map f keys ≡ xs → AreFirsts (λ a b. E (f a) (f b)) keys firsts → AreFirsts E xs firsts
held {K = K} {X = X} f E keys xs firsts are first = subst (λ (ys : List X). AreFirsts E ys firsts) are all
  where
    all : AreFirsts E (map f keys) firsts
    all = record {
      each = first.each ∙ sym (length-map keys f);
      there = λ a x e.
          let k = key_at f keys a x e in
          let it = first.there a k.0 k.1 in
          record {
            one = f it.one;
            there = slice_get-map f keys (slice_index firsts a) ∙ ap (option_map f) it.there;
            equal = ap (λ (y : X). E y (f it.one)) (sym k.2) ∙ it.equal;
          };
      same = λ a b x y e g is.
          let k = key_at f keys a x e in
          let l = key_at f keys b y g in
          first.same a b k.0 l.0 k.1 l.1 ((λ i. E (k.2 i) (l.2 i)) ∙ is);
      least = λ a x e. let k = key_at f keys a x e in first.least a k.0 k.1;
    }

some_same : {X : Type 0} (x y : X) → Some x ≡ Some y → x ≡ y
some_same x y e = cc

pub equal_keys : {X : Type 0} {E : X → X → Bool} (laws : IsEquivalence E) (xs : List X) (firsts : List ℕ) → AreFirsts E xs firsts → (a b : ℕ) (x y : X) → slice_get xs a ≡ Some x → slice_get xs b ≡ Some y
    → partition_of firsts a ≡ partition_of firsts b → E x y ≡ true
equal_keys {E = E} laws xs firsts first a b x y e f same =
    let m = first.there a x e in
    let n = first.there b y f in
    let one : m.one ≡ n.one = some_same m.one n.one (sym m.there ∙ ap (slice_get xs) same ∙ n.there) in
    laws.congr x m.one y m.equal ∙ laws.symm m.one y ∙ ap (E y) one ∙ n.equal

pub numbers : {X : Type 0} {E : X → X → Bool} (laws : IsEquivalence E) (xs : List X) (firsts : List ℕ) → AreFirsts E xs firsts → AreFirstNumbers (length xs) firsts
numbers laws xs firsts first = record {
  each = first.each;
  itself = λ a low.
      let x = at_within xs a low in
      let it = first.there a x.0 x.1 in
      sym (first.same a (slice_index firsts a) x.0 it.one x.1 it.there it.equal);
  least = λ a b low high same.
      let y = at_within xs b high in
      subst (λ (n : ℕ). n ≤ b) (sym same) (first.least b y.0 y.1);
}
