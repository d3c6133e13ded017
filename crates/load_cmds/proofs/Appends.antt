-- Bytes that are appended one after the other.
use Rattle.std.proofs.Common.{◌≡◌, ℕ, ◌+◌, ◌<◌, ◌≤◌, List, [], ◌∷◌, ◌++◌, length, take, drop, get_or, replicate, Bool, true, false, refl, sym, ap, ◌∙◌, append_assoc, append-nil}
use Rattle.std.specs.List.{flat_map}
use Rattle.std.proofs.lemmas.List.{at_drop_more, at_drop_all, take-replicate}
use Rattle.load_cmds.specs.Others.{given}

pub appended : (old mid new a b : List ℕ) → mid ≡ old ++ a → new ≡ mid ++ b → new ≡ old ++ (a ++ b)
appended old mid new a b first second = second ∙ ap (λ (z : List ℕ). z ++ b) first ∙ append_assoc old a b

pub not_given : (old bytes : List ℕ) (there : Bool) → there ≡ false → old ≡ old ++ given there bytes
not_given old bytes there e = rw e (sym (append-nil old))

pub is_given : (old new bytes : List ℕ) (there : Bool) → there ≡ true → new ≡ old ++ bytes → new ≡ old ++ given there bytes
is_given old new bytes there e is = rw e is

pub ruleset appends = (appended, not_given, is_given)

pub first_zeros : (m n z : ℕ) → m ≤ n → take m (replicate n z) ≡ replicate m z
first_zeros m n z low = take-replicate m n z low

-- ---- a loop that appends the bytes of each element

pub record IsPutting {X : Type 0} (f : X → List ℕ) (xs : List X) (old : List ℕ) (at : ℕ) (now : List ℕ) : Type 0 where
  pub rest : now ++ flat_map f (drop at xs) ≡ old ++ flat_map f xs

pub putting_starts : {X : Type 0} (f : X → List ℕ) (xs : List X) (old : List ℕ) → IsPutting f xs old 0 old
putting_starts f xs old = record { rest = refl }

pub putting_goes_on : {X : Type 0} (f : X → List ℕ) (xs : List X) (old : List ℕ) (at : ℕ) (now new : List ℕ) (x : X) → IsPutting f xs old at now → at < length xs → x ≡ get_or xs at x → new ≡ now ++ f x → IsPutting f xs old (at + 1) new
putting_goes_on f xs old at now new x putting within is e = record {
  rest = ap (λ (z : List ℕ). z ++ flat_map f (drop (at + 1) xs)) (e ∙ ap (λ y. now ++ f y) is)
      ∙ append_assoc now (f (get_or xs at x)) (flat_map f (drop (at + 1) xs))
      ∙ ap (λ (z : List ℕ). now ++ z) (sym (at_drop_more (flat_map f) xs at x within))
      ∙ putting.rest;
}

pub putting_ends : {X : Type 0} (f : X → List ℕ) (xs : List X) (old : List ℕ) (at : ℕ) (now : List ℕ) → IsPutting f xs old at now → length xs ≤ at → now ≡ old ++ flat_map f xs
putting_ends f xs old at now putting past =
    sym (append-nil now) ∙ ap (λ (z : List ℕ). now ++ z) (sym (at_drop_all (flat_map f) xs at past)) ∙ putting.rest

pub ruleset putting = (putting_starts, putting_goes_on, putting_ends)
