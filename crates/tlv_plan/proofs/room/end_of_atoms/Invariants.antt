use Rattle.tlv_plan.proofs.Walk.{Ending}
use Rattle.tlv_plan.proofs.room.end_of_atoms.Given as goal

abbrev pub invariant-loop-key : goal.invariant-loop-key
invariant-loop-key l = Ending l.kept l.keys l.fn.from l.key-index l.at
