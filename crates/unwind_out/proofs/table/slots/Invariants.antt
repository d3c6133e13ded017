use Rattle.std.proofs.Common.{◌≤◌, length}
use Rattle.unwind_out.proofs.Loops.{IsGathering}
use Rattle.unwind_out.proofs.table.slots.Given as goal

abbrev pub invariant-loop-row : goal.invariant-loop-row
invariant-loop-row l = record { gathers : IsGathering l.rows l.row-index l.slots.items; few : length l.slots.items ≤ 3 }
