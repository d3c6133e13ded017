-- The scale by which branches are judged, by their pairs.
use Rattle.std.specs.Prelude.{ℕ, ◌≡◌, List}
use Rattle.sect_place.specs.Shifts.{unit_in}
use Rattle.sect_place.specs.declared.layout.PlacedSection.{PlacedSection}
use Rattle.island_core.specs.Far.{ArePairs, bytes_before}
use Rattle.island_core.specs.declared.row.Pair.{Pair}
use Rattle.island_core.specs.declared.row.Row.{Row}
use Rattle.island_core.specs.declared.row.Scale.{Scale}

pub record IsScaleOf (sections : List PlacedSection) (groups reach : ℕ) (rows : List Row) (scale : Scale) : Type 0 where
  pub pairs : List Pair
  pub taken : ArePairs rows pairs
  pub unit : scale.unit ≡ unit_in sections
  pub groups_same : scale.groups ≡ groups
  pub reach_same : scale.reach ≡ reach
  pub slack : scale.slack ≡ bytes_before (unit_in sections) pairs groups
