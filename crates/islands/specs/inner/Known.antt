-- What is known of branches before they are counted.
use Rattle.std.specs.Prelude.{◌≡◌, ◌≤◌, List, length, map, All}
use Rattle.std.specs.List.Sorted.{IsStrictlySortedBy}
use Rattle.mo_types.specs.declared.key.AtomKey.{AtomKey}
use Rattle.sect_place.specs.declared.layout.Layout.{Layout}
use Rattle.islands.specs.declared.row.Known.{Known}
use Rattle.islands.specs.declared.row.Stand.{Stand}
use Rattle.islands.specs.declared.spot.Spot.{Spot}
use Rattle.islands.specs.declared.target.Aim.{Aim}
use Rattle.islands.specs.Rows.{spot_by}
use Rattle.islands.specs.Targets.{compare_targets}
use Rattle.islands.specs.Text.{groups_before, in_code, place_in}
use Rattle.islands.specs.inner.Bounds.{IsNearSpot}
use Rattle.islands.specs.inner.Held.{target_of}

-- where a target stands
abbrev pub spot_of_aim : Layout → List AtomKey → Aim → Spot
spot_of_aim layout lasts aim = spot_by layout lasts aim.goal aim.stub

-- targets in order, and where they stand
pub record IsKnown (layout : Layout) (lasts : List AtomKey) (known : Known) : Type 0 where
  pub rises : IsStrictlySortedBy compare_targets (map target_of known.aims.now)
  pub spots : known.spots.now ≡ map (spot_of_aim layout lasts) known.aims.now
  pub near : All (IsNearSpot (length lasts)) known.spots.now

-- where an atom stands
pub record IsStand (layout : Layout) (lasts : List AtomKey) (key : AtomKey) (stand : Stand) : Type 0 where
  pub of_key : stand.key ≡ key
  pub place : stand.place ≡ place_in layout key
  pub group : stand.group ≡ groups_before lasts key
  pub low : stand.group ≤ length lasts
  pub inside : stand.inside ≡ in_code layout key
