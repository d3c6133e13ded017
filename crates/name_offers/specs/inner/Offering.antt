-- The offers of a file, and what they make of a racer.
use Rattle.std.specs.Prelude.{◌≡◌, ℕ, ◌++◌, ◌≤◌, List, [], All, get_or, length, map, position, sum_by, Option, option_map}
use Rattle.std.specs.List.{filter_map}
use Rattle.std.specs.Str.{bytes_eq}
use Rattle.mo_types.specs.Candidates.{Candidate, candidate_at, candidate_word, candidates_of}
use Rattle.mo_types.specs.declared.loaded.LoadedFile.{LoadedFile}
use Rattle.mo_types.specs.declared.object.Symbol.{Symbol}
use Rattle.mo_types.specs.Loaded.{IsWholeFile}
use Rattle.name_ids.specs.Names.{numbers_of}
use Rattle.name_race.specs.Race.{Holding, Race}
use Rattle.name_offers.specs.Offers.{GrewBy, offers_of}

-- a candidate's offer, where its name has a number
unfoldable pub offer_by : List (List ℕ) → Candidate → Option (ℕ × ℕ)
offer_by names candidate = option_map (λ id. (id, candidate_word candidate)) (position (bytes_eq candidate.symbol.name) names)

-- the offers of a file's symbols, each with its index
unfoldable pub offers_at : List (List ℕ) → LoadedFile → List (ℕ × Symbol) → List (ℕ × ℕ)
offers_at names file symbols = filter_map (offer_by names) (filter_map (candidate_at file) symbols)

-- those of a file
unfoldable pub offers_in : List (List ℕ) → LoadedFile → List (ℕ × ℕ)
offers_in names file = filter_map (offer_by names) (candidates_of file)

-- a racer that made offers
pub record HasOffered (bids : List (ℕ × ℕ)) (before after : Holding) : Type 0 where
  pub race : after.race ≡ before.race
  pub passes : after.passes ≡ before.passes
  pub offers : after.offers ≡ before.offers ++ bids

-- those of the file of a job
abbrev pub offers_of_job : List (List ℕ) → List LoadedFile → ℕ → List (ℕ × ℕ)
offers_of_job names files job = get_or (map (offers_in names) files) job []

-- files whose candidates' words are offered in a race that has a word for each name, with the numbers of their symbols
pub record AreOffered (race : Race) (names lists : List (List ℕ)) (files : List LoadedFile) : Type 0 where
  pub words : length names ≤ length race.start
  pub whole : All IsWholeFile files
  pub numbers : lists ≡ numbers_of names files

-- racers that made offers
pub record HaveOffered (bids : List (ℕ × ℕ)) (before after : List Holding) : Type 0 where
  pub races : map (λ racer. racer.race) after ≡ map (λ racer. racer.race) before
  pub passes : map (λ racer. racer.passes) after ≡ map (λ racer. racer.passes) before
  pub offers : GrewBy bids before after

-- racers of a race with so many passes together, which offered nothing
pub record AreRacers (race : Race) (passes : ℕ) (racers : List Holding) : Type 0 where
  pub races : All (λ racer. racer.race ≡ race) racers
  pub all_passes : sum_by (λ racer. racer.passes) racers ≡ passes
  pub nothing : offers_of racers ≡ []
