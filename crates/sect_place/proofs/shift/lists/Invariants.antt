use Rattle.sect_place.proofs.Shifting.{AreMissed}
use Rattle.sect_place.proofs.shift.lists.Given as goal

abbrev pub invariant-loop-placed : goal.invariant-loop-placed
invariant-loop-placed l = AreMissed l.sections l.region l.atom l.placed-index
