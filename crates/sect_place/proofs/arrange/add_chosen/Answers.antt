use Rattle.std.proofs.Common.{sym, ◌∙◌}
use Rattle.sect_place.proofs.Arranged.{choosing_skips, choosing_goes_on, choosing_ends}
use Rattle.sect_place.proofs.arrange.add_chosen.Goals as goal
use Rattle.sect_place.proofs.arrange.add_chosen.Goals.{then-has+in_ok-copy_of+in_ok-push, else-has}

pub loop-section-preserved : goal.loop-section-preserved
loop-section-preserved c =
    elim c.if-has.branch [
      | then-has+in_ok-copy_of+in_ok-push w ↦ rw w.parts-is (choosing_goes_on c.args.choice c.args.sections.now c.loop-section.section-index c.section-item.result _ c.loop-section.parts.items w.push.new.self.items _ c.loop-section.invariant c.loop-section-test.true c.section-item.is (sym c.has.ensures ∙ w.if-has.true) w.in_ok-copy_of.ensures w.in_ok-push.ensures.items)
      | else-has w ↦ rw w.parts-is (choosing_skips c.args.choice c.args.sections.now c.loop-section.section-index c.section-item.result c.loop-section.parts.items _ c.loop-section.invariant c.loop-section-test.true c.section-item.is (sym c.has.ensures ∙ w.if-has.false))
    ]

pub returns : goal.returns
returns c = choosing_ends c.args.choice c.args.sections.now c.loop-section.section-index c.loop-section.parts.items _ c.loop-section.invariant c.loop-section-test.false
