-- What files offer in a race of names: one offer for each candidate.
use Rattle.std.specs.Prelude.{ℕ, ◌++◌, List, map}
use Rattle.std.specs.List.{flat_map, position_or_len}
use Rattle.std.specs.List.Sorted.{IsPermutation}
use Rattle.std.specs.Str.{bytes_eq}
use Rattle.mo_types.specs.Candidates.{Candidate, candidate_word, candidates}
use Rattle.mo_types.specs.declared.loaded.LoadedFile.{LoadedFile}
use Rattle.name_race.specs.Race.{Holding}

-- a candidate's offer: its word, for the number of its name
abbrev pub bid_of : List (List ℕ) → Candidate → ℕ × ℕ
bid_of names candidate = (position_or_len (bytes_eq candidate.symbol.name) names, candidate_word candidate)

-- the offers of files, one for each of their candidates
unfoldable pub bids_of : List (List ℕ) → List LoadedFile → List (ℕ × ℕ)
bids_of names files = map (bid_of names) (candidates files)

-- the offers that racers made or took over
abbrev pub offers_of : List Holding → List (ℕ × ℕ)
offers_of racers = flat_map (λ racer. racer.offers) racers

-- the racers' offers together grew by these, once each
abbrev pub GrewBy : List (ℕ × ℕ) → List Holding → List Holding → Type 0
GrewBy bids before after = IsPermutation (offers_of before ++ bids) (offers_of after)
