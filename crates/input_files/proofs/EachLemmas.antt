-- What holds of all members of a list, by its members.
use Rattle.std.proofs.Common.{◌≡◌, ℕ, zero, suc, ◌<◌, List, [], ◌∷◌, length, get_or, refl, subst, inl, inr, arith}
use Rattle.std.specs.Prelude.{All}
use Rattle.list_lemmas.proofs.Members.{In, Contains_from_in}

pub all_has : {X : Type 0} (P : X → Type 0) (xs : List X) (x : X) → All P xs → In x xs → P x
all_has P xs x holds there = let at = Contains_from_in xs x there in subst P at.2 (holds at.0 x at.1)

at_in : {X : Type 0} (xs : List X) (k : ℕ) (d : X) → k < length xs → In (get_or xs k d) xs
at_in [] k d low = absurd (omega arith)
at_in (x ∷ xs) zero d low = inl refl
at_in (x ∷ xs) (suc k) d low = inr (at_in xs k d (omega arith))

pub all_from : {X : Type 0} (P : X → Type 0) (xs : List X) → ((x : X) → In x xs → P x) → All P xs
all_from P xs each = λ k d low. each (get_or xs k d) (at_in xs k d low)
