use Rattle.std.proofs.Common.{sym, ◌∙◌}
use Rattle.tlv_plan.specs.Template.{greatest_align, thread_local}
use Rattle.tlv_plan.proofs.Walk.{greatest_skips, greatest_goes_on, greatest_ends}
use Rattle.tlv_plan.proofs.plan.greatest_align.Goals as goal
use Rattle.tlv_plan.proofs.plan.greatest_align.Goals.{then-is_thread_local, else-is_thread_local}

pub loop-section-preserved : goal.loop-section-preserved
loop-section-preserved c =
    elim c.if-is_thread_local.branch [
      | then-is_thread_local w ↦ greatest_goes_on c.args.sections.now c.loop-section.section-index c.loop-section.greatest (greatest_align (thread_local c.args.sections.now)) c.if-is_thread_local.greatest c.section-item.result c.loop-section.invariant c.loop-section-test.true c.section-item.is (sym c.is_thread_local.ensures ∙ w.if-is_thread_local.true) (w.greatest-is ∙ w.larger-greatest.ensures)
      | else-is_thread_local w ↦ rw w.greatest-is (greatest_skips c.args.sections.now c.loop-section.section-index c.loop-section.greatest (greatest_align (thread_local c.args.sections.now)) c.section-item.result c.loop-section.invariant c.loop-section-test.true c.section-item.is (sym c.is_thread_local.ensures ∙ w.if-is_thread_local.false))
    ]

pub returns : goal.returns
returns c = greatest_ends c.args.sections.now c.loop-section.section-index c.loop-section.greatest (greatest_align (thread_local c.args.sections.now)) c.loop-section.invariant c.loop-section-test.false
