-- A race and its racers, as contracts see them.
use Rattle.std.specs.Prelude.{ℕ, List}
use Rattle.atomic_table.specs.Seated.{TableId}

-- What is fixed when a race begins: what tells it from other races, the word of each name at the start, and the passes of all its racers together
pub record Race : Type 0 where
  pub id : TableId
  pub start : List ℕ
  pub passes : ℕ

-- What a racer keeps: its race, its passes, the offers that it made or took over, and the words that it knows. An offer, and what is known, is a name and a word
pub record Holding : Type 0 where
  pub race : Race
  pub passes : ℕ
  pub offers : List (ℕ × ℕ)
  pub known : List (ℕ × ℕ)
