use Rattle.std.proofs.Common.{◌≡◌, ◌≤◌, drop, max}
use Rattle.sect_place.specs.Places.{area_unit}
use Rattle.sect_place.specs.Shifts.{sections_in}
use Rattle.islands.proofs.planning.unit_in.Given as goal

abbrev pub invariant-loop-placed : goal.invariant-loop-placed
invariant-loop-placed l = record {
  so_far : max l.unit (area_unit (sections_in (drop l.placed-index l.sections))) ≡ area_unit (sections_in l.sections);
  least : 2 ≤ l.unit;
}
