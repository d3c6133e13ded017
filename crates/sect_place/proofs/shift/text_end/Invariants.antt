use Rattle.std.proofs.Common.{◌≡◌, ◌^◌, ◌<◌, drop}
use Rattle.sect_place.specs.Shifts.{text_end_from}
use Rattle.sect_place.proofs.shift.text_end.Given as goal

abbrev pub invariant-loop-placed : goal.invariant-loop-placed
invariant-loop-placed l = record {
  so_far : text_end_from l.end (drop l.placed-index l.sections) ≡ text_end_from 0 l.sections;
  small : l.end < 2 ^ 65;
}
