-- Lists that are appended one after the other.
use Rattle.std.proofs.Common.{◌≡◌, ℕ, ◌≤◌, List, [], ◌++◌, take, replicate, ap, ◌∙◌, append_assoc}
use Rattle.std.proofs.lemmas.List.{take-replicate}

pub appended : {X : Type 0} (old mid new a b : List X) → mid ≡ old ++ a → new ≡ mid ++ b → new ≡ old ++ (a ++ b)
appended {X = X} old mid new a b first second = second ∙ ap (λ (z : List X). z ++ b) first ∙ append_assoc old a b

pub ruleset appends = (appended)

-- three lists behind an empty one
pub three : {X : Type 0} (o a b c x y z : List X) → o ≡ [] → a ≡ o ++ x → b ≡ a ++ y → c ≡ b ++ z → c ≡ x ++ (y ++ z)
three {X = X} o a b c x y z none p q r =
    r ∙ ap (λ (l : List X). l ++ z) q ∙ append_assoc a y z
    ∙ ap (λ (l : List X). l ++ (y ++ z)) (p ∙ ap (λ (l : List X). l ++ x) none)

pub ruleset defining = (three)

pub first_zeros : (m n z : ℕ) → m ≤ n → take m (replicate n z) ≡ replicate m z
first_zeros m n z low = take-replicate m n z low
