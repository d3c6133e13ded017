-- The bounds of what is computed of a branch.
use Rattle.std.specs.Prelude.{ℕ, ◌<◌, ◌≤◌, ◌^◌}
use Rattle.island_core.specs.declared.row.Row.{Row}
use Rattle.islands.specs.declared.spot.Spot.{Spot}

-- numbers of an image with so many groups
pub record IsNear (groups : ℕ) (row : Row) : Type 0 where
  pub group : row.pair.group ≤ groups
  pub zone : row.zone ≤ groups
  pub from : row.from < 2 ^ 66
  pub to : row.to < 2 ^ 66

pub record IsNearSpot (groups : ℕ) (spot : Spot) : Type 0 where
  pub place : spot.place < 2 ^ 65
  pub zone : spot.zone ≤ groups
