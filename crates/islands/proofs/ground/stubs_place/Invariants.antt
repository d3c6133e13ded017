use Rattle.std.proofs.Common.{◌≡◌, drop}
use Rattle.islands.specs.Rows.{stubs_in}
use Rattle.islands.proofs.ground.stubs_place.Given as goal

abbrev pub invariant-loop-placed : goal.invariant-loop-placed
invariant-loop-placed l = stubs_in (drop l.placed-index l.sections) ≡ stubs_in l.sections
