use Rattle.std.proofs.Common.{◌≡◌, ◌≤◌, drop, max}
use Rattle.sect_place.specs.Places.{area_unit}
use Rattle.sect_place.proofs.placing.area_unit.Given as goal

abbrev pub invariant-loop-section : goal.invariant-loop-section
invariant-loop-section l = record {
  so_far : max l.unit (area_unit (drop l.section-index l.sections)) ≡ area_unit l.sections;
  least : 2 ≤ l.unit;
  low : l.unit ≤ 14;
}
