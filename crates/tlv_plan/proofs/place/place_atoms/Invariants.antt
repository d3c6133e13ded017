use Rattle.tlv_plan.proofs.Walk.{Standing}
use Rattle.tlv_plan.proofs.place.place_atoms.Given as goal

abbrev pub invariant-loop-key : goal.invariant-loop-key
invariant-loop-key l = Standing l.kept l.keys l.fn.from l.initial.places.items l.key-index l.at l.places.items
