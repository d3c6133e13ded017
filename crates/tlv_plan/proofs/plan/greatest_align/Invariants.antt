use Rattle.std.proofs.Common.{◌≡◌, drop, max}
use Rattle.tlv_plan.specs.Template.{greatest_align, thread_local}
use Rattle.tlv_plan.proofs.plan.greatest_align.Given as goal

abbrev pub invariant-loop-section : goal.invariant-loop-section
invariant-loop-section l = max l.greatest (greatest_align (thread_local (drop l.section-index l.sections))) ≡ greatest_align (thread_local l.sections)
