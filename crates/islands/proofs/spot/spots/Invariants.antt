use Rattle.std.proofs.Common.{◌≡◌, All, length, map, take}
use Rattle.islands.specs.inner.Bounds.{IsNearSpot}
use Rattle.islands.specs.inner.Known.{spot_of_aim}
use Rattle.islands.proofs.spot.spots.Given as goal

abbrev pub invariant-loop-aim : goal.invariant-loop-aim
invariant-loop-aim l = record {
  exact : l.spots.items ≡ map (spot_of_aim l.layout l.lasts) (take l.aim-index l.aims);
  near : All (IsNearSpot (length l.lasts)) l.spots.items;
}
