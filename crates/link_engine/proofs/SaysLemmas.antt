-- Lines that are put, or not.
use Rattle.std.proofs.Common.{◌≡◌, ◌∙◌, ℕ, ◌++◌, List, [], length, Option, Some, None, refl, sym, ap, arith}
use Rattle.std.proofs.lemmas.List.{append-nil}
use Rattle.std.proofs.Math.Seq.{take-length}
use Rattle.mo_outside.specs.Tells.{Appends, AppendsSome, Stays, Tells}
use Rattle.link_engine.specs.Settles.{Says}
use Rattle.link_engine.proofs.WritingLemmas.{tells_more}

-- what isn't touched stays
pub untouched : {A : Type 0} (x : Option A) → Tells Stays x x
untouched None = tt
untouched (Some a) = record { same = refl }

nothing : (line : List ℕ) → line ≡ [] → (x : Option (List ℕ)) → Tells (Appends line) x x
nothing line none None = tt
nothing line none (Some old) = record { appended = sym (ap (λ (more : List ℕ). old ++ more) none ∙ append-nil old) }

whole_prefix : (line : List ℕ) (x y : Option (List ℕ)) → Tells (Appends line) x y → Tells (AppendsSome line) x y
whole_prefix line x y told =
    tells_more (Appends line) (AppendsSome line)
    (λ a b all. record { count = length line; within = omega arith; appended = all.appended ∙ ap (λ (more : List ℕ). a ++ more) (sym (take-length line)) }) x y told

pub says_nothing : (line : List ℕ) (quiet : Type 0) (x : Option (List ℕ)) → line ≡ [] → Says line quiet x x
says_nothing line quiet x none = record { whole = λ _. nothing line none x; prefix = whole_prefix line x x (nothing line none x) }

pub says_all : (line : List ℕ) (quiet : Type 0) (x y : Option (List ℕ)) → Tells (Appends line) x y → Says line quiet x y
says_all line quiet x y told = record { whole = λ _. told; prefix = whole_prefix line x y told }

pub says_some : (line : List ℕ) (quiet : Type 0) (x y : Option (List ℕ)) → (quiet → ⊥) → Tells (AppendsSome line) x y → Says line quiet x y
says_some line quiet x y loud told = record { whole = λ q. absurd (loud q); prefix = told }

pub ruleset says = (says_nothing, says_all, says_some)
