use Rattle.tlv_plan.proofs.Walk.{Placing}
use Rattle.tlv_plan.proofs.place.place_sections.Given as goal

abbrev pub invariant-loop-section : goal.invariant-loop-section
invariant-loop-section l = Placing l.kept l.sections l.section-index l.at l.places.items
