use Rattle.tlv_plan.proofs.Walk.{Closing}
use Rattle.tlv_plan.proofs.room.end_of_sections.Given as goal

abbrev pub invariant-loop-section : goal.invariant-loop-section
invariant-loop-section l = Closing l.kept l.sections l.section-index l.at
