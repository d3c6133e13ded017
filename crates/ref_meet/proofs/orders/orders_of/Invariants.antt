use Rattle.ref_meet.proofs.OrderLemmas.{AreSoFar}
use Rattle.ref_meet.proofs.orders.orders_of.Given as goal

abbrev pub invariant-loop-file : goal.invariant-loop-file
invariant-loop-file l = AreSoFar l.files l.file-index l.orders
