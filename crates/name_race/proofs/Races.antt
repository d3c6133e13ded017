-- A racer of a race, as the fields of both show it.
use Rattle.std.proofs.Common.{◌≡◌, ℕ, ◌<◌, length, sym, ◌∙◌, ap, subst}
use Rattle.name_race.specs.Race.{Race, Holding}

-- a racer that is of this race in a contract is of it by its fields
pub same_race : (fields held : Holding) (race_fields race : Race) → fields ≡ held → race_fields ≡ race → held.race ≡ race → fields.race ≡ race_fields
same_race fields held race_fields race is race_is of = ap (λ (h : Holding). h.race) is ∙ (of ∙ sym race_is)

-- a name has a word at the start, and so a word
pub has_start : (name : ℕ) (race_fields race : Race) → race_fields ≡ race → name < length race.start → name < length race_fields.start
has_start name race_fields race is near = subst (λ (r : Race). name < length r.start) (sym is) near

pub has_word : (name words names : ℕ) → words ≡ names → name < names → name < words
has_word name words names long near = subst (λ n. name < n) (sym long) near
