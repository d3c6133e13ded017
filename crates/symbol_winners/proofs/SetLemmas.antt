-- Sets of names, with one name more or less.
use Rattle.std.proofs.Common.{◌≡◌, ℕ, ◌+◌, ◌<◌, ◌≤◌, Bool, true, false, ◌||◌, List, [], length, take, get_or, refl, sym, ap, ◌∙◌}
use Rattle.std.specs.Prelude.{if◌then◌else◌}
use Rattle.std.specs.List.{list_any}
use Rattle.std.specs.Str.{bytes_eq}
use Rattle.std.proofs.lemmas.List.{take_all}
use Rattle.std.proofs.lemmas.List.Folds.{list_any_more}
use Rattle.symbol_winners.specs.Winners.{lists}
use Rattle.symbol_winners.proofs.TableLemmas.{other_way, same_way}

-- a test of the elements, with one element more
pub any_step : {X : Type 0} (p : X → Bool) (xs : List X) (i : ℕ) (x : X) (old new : Bool) → i < length xs → x ≡ get_or xs i x → old ≡ list_any p (take i xs) → new ≡ (old || p x) → new ≡ list_any p (take (i + 1) xs)
any_step p xs i x old new low is before after =
    after ∙ ap (λ (b : Bool). b || p x) before ∙ ap (λ y. list_any p (take i xs) || p y) is ∙ sym (list_any_more p xs i x low)

pub either : (hit old : Bool) → (if hit then true else old) ≡ (old || hit)
either true true = refl
either true false = refl
either false true = refl
either false false = refl

pub turned : (a b : List ℕ) (t : Bool) → bytes_eq b a ≡ t → bytes_eq a b ≡ t
turned a b true is = same_way b a is
turned a b false is = other_way b a is

pub set_start : (names set : List (List ℕ)) → set ≡ [] → (name : List ℕ) → lists set name ≡ lists (take 0 names) name
set_start names set none name = ap (λ ns. lists ns name) none

pub set_step : (names old new : List (List ℕ)) (i : ℕ) (name : List ℕ) → i < length names → name ≡ get_or names i name → ((other : List ℕ) → lists old other ≡ lists (take i names) other) → ((other : List ℕ) → lists new other ≡ (if bytes_eq name other then true else lists old other)) → (other : List ℕ) → lists new other ≡ lists (take (i + 1) names) other
set_step names old new i name low is before after other =
    any_step (bytes_eq other) names i name (lists old other) (lists new other) low is (before other)
    (after other ∙ either (bytes_eq name other) (lists old other) ∙ ap (λ b. lists old other || b) (sym (turned other name (bytes_eq name other) refl)))

pub set_end : (names set : List (List ℕ)) (i : ℕ) → length names ≤ i → ((other : List ℕ) → lists set other ≡ lists (take i names) other) → (other : List ℕ) → lists set other ≡ lists names other
set_end names set i past before other = before other ∙ ap (λ ns. lists ns other) (take_all i names past)

pub ruleset sets = (set_start, set_end)
