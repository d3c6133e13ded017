-- The offers of candidates for their names.
use Rattle.std.specs.Prelude.{ℕ, List, Option, position}
use Rattle.std.specs.Option.{option_map}
use Rattle.std.specs.Str.{bytes_eq}
use Rattle.race_core.specs.declared.Offer.{Offer}
use Rattle.symbol_winners.specs.Winners.{found_word}
use Rattle.symbol_winners.specs.declared.found.FoundIn.{FoundIn}
use Rattle.symbol_winners.specs.inner.Best.{held_name}
use Rattle.symbol_winners.specs.inner.Tables.{found_of}

-- what a candidate offers for the name of a number
abbrev pub offer_by : FoundIn → ℕ → Offer
offer_by f id = record { worker = 0; name = id; word = found_word (found_of f) }

-- what it offers for its name, if that has a number
unfoldable pub offer_of : List (List ℕ) → FoundIn → Option Offer
offer_of names f = option_map (offer_by f) (position (bytes_eq (held_name f)) names)
