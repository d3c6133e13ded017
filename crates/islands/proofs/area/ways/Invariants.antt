use Rattle.std.proofs.Common.{take}
use Rattle.islands.specs.Plan.{AreWays}
use Rattle.islands.proofs.area.ways.Given as goal

abbrev pub invariant-loop-row : goal.invariant-loop-row
invariant-loop-row l = AreWays l.far (take l.row-index l.rows) l.ways.items
