-- What holds of the branches of a list so far.
use Rattle.std.proofs.Common.{ℕ, ◌+◌, ◌<◌, ◌≤◌, List, All, length, get_or, take, subst}
use Rattle.std.proofs.lemmas.List.{take_all}
use Rattle.std.proofs.lemmas.List.Elements.{All-more, All-nil}
use Rattle.island_core.specs.Far.{IsInTurn, IsRow}
use Rattle.island_core.specs.declared.row.Row.{Row}
use Rattle.island_core.specs.declared.row.Scale.{Scale}

-- branches of an image, so many of a list
pub record AreFitting (scale : Scale) (rows : List Row) (i : ℕ) : Type 0 where
  pub fit : All (IsRow scale) (take i rows)
  pub turns : All IsInTurn (take i rows)

pub fitting_start : (scale : Scale) (rows : List Row) → AreFitting scale rows 0
fitting_start scale rows = record { fit = All-nil (IsRow scale); turns = All-nil IsInTurn }

pub fitting_more : (scale : Scale) (rows : List Row) (i : ℕ) (d : Row) → AreFitting scale rows i → i < length rows → IsRow scale (get_or rows i d) → IsInTurn (get_or rows i d) → AreFitting scale rows (i + 1)
fitting_more scale rows i d so low row turn = record { fit = All-more (IsRow scale) rows i d low so.fit row; turns = All-more IsInTurn rows i d low so.turns turn }

pub fitting_rows : (scale : Scale) (rows : List Row) (i : ℕ) → AreFitting scale rows i → length rows ≤ i → All (IsRow scale) rows
fitting_rows scale rows i so past = subst (All (IsRow scale)) (take_all i rows past) so.fit

pub fitting_turns : (scale : Scale) (rows : List Row) (i : ℕ) → AreFitting scale rows i → length rows ≤ i → All IsInTurn rows
fitting_turns scale rows i so past = subst (All IsInTurn) (take_all i rows past) so.turns
