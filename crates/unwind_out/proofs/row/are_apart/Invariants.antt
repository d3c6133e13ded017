use Rattle.unwind_out.proofs.Apart.{IsApartFrom}
use Rattle.unwind_out.proofs.row.are_apart.Given as goal

abbrev pub invariant-loop-row : goal.invariant-loop-row
invariant-loop-row l = IsApartFrom l.rows l.row-index l.place
