-- How the code finds what stands under a name.
use Rattle.std.specs.Prelude.{◌≡◌, ℕ, ◌<◌, List, get_or, position, slice_get, Option, Some, None, IsSome}
use Rattle.std.specs.Option.{option_and_then}
use Rattle.std.specs.Str.{bytes_eq}
use Rattle.command_line.specs.declared.command.Command.{Command}
use Rattle.symbol_winners.specs.Winners.{lists, winner_named}
use Rattle.symbol_winners.specs.declared.chosen.Chosen.{Chosen}
use Rattle.symbol_winners.specs.declared.exports.ExportRules.{ExportRules}
use Rattle.symbol_winners.specs.declared.name_index.NameIndex.{NameIndex}
use Rattle.literal_merge.specs.declared.representative.Representative.{Representative}
use Rattle.symbol_winners.specs.declared.winner.Winner.{Winner}
use Rattle.symbol_winners.specs.inner.Best.{chosen_name}
use Rattle.literal_merge.specs.inner.Literals.{AreInOrder}

-- the place of a name, by its number
unfoldable pub place_of_name : List (Option ℕ) → List (List ℕ) → List ℕ → Option ℕ
place_of_name places names name = option_and_then (λ id. get_or places id None) (position (bytes_eq name) names)

abbrev pub known : NameIndex → List ℕ → Option ℕ
known index name = place_of_name index.places.items index.names.now name

-- the rules are a command's
pub record AreRules (command : Command) (rules : ExportRules) : Type 0 where
  pub given : rules.given ≡ command.export_given
  pub exports : (name : List ℕ) → lists rules.exports name ≡ lists command.exports name
  pub unexports : (name : List ℕ) → lists rules.unexports name ≡ lists command.unexports name

-- of the winning candidates before a place, each name leads to one that has it
pub record IsIndexOf (chosen : List Chosen) (n : ℕ) (index : NameIndex) : Type 0 where
  pub within : (name : List ℕ) (k : ℕ) → known index name ≡ Some k → k < n
  pub found : (name : List ℕ) (k : ℕ) (d : Chosen) → known index name ≡ Some k → chosen_name (get_or chosen k d) ≡ name
  pub all : (k : ℕ) (d : Chosen) → k < n → IsSome (known index (chosen_name (get_or chosen k d)))

-- the index leads to the winners of a list, and literals are in order
pub record IsIndexed (winners : List Winner) (literals : List Representative) (index : NameIndex) : Type 0 where
  pub order : AreInOrder literals
  pub leads : (name : List ℕ) → option_and_then (slice_get winners) (known index name) ≡ winner_named winners name
