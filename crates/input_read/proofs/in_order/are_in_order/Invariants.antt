use Rattle.std.specs.List.{AllAdjacentBelow}
use Rattle.input_read.proofs.OrderLemmas.{IsBelow}
use Rattle.input_read.proofs.in_order.are_in_order.Given as goal

abbrev pub invariant-loop-i : goal.invariant-loop-i
invariant-loop-i l = AllAdjacentBelow IsBelow l.inputs l.i
