-- The words of a race after some offers. What is offered is a pair: a name, by its number, and a word for it.
use Rattle.std.specs.Prelude.{◌≡◌, ℕ, ◌==◌, ◌≤◌, ◌⊎◌, min, List, map, filter, fold}
use Rattle.std.specs.List.{enumerate_from}
use Rattle.race_core.specs.declared.Offer.{Offer}

-- what the events offer, whoever made them
abbrev pub bids_of : List Offer → List (ℕ × ℕ)
bids_of events = map (λ e. (e.name, e.word)) events

-- the words that are offered for a name
abbrev pub words_for : ℕ → List (ℕ × ℕ) → List ℕ
words_for name bids = map (λ b. b.1) (filter (λ b. b.0 == name) bids)

-- the least of a name's word at the start and of the words that are offered for it
unfoldable pub least_word : ℕ → ℕ → List (ℕ × ℕ) → ℕ
least_word name word bids = fold min word (words_for name bids)

-- the word of each name after the offers
unfoldable pub run : List ℕ → List (ℕ × ℕ) → List ℕ
run start bids = map (λ p. least_word p.0 p.1 bids) (enumerate_from 0 start)

-- the word is the least of the one at the start and of those that are offered
pub record IsLeast (start : ℕ) (IsOffered : ℕ → Type 0) (word : ℕ) : Type 0 where
  pub from_start : word ≤ start
  pub from_offers : (offered : ℕ) → IsOffered offered → word ≤ offered
  pub is_one : (word ≡ start) ⊎ IsOffered word
