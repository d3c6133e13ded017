use Rattle.std.proofs.Common.{ap, sym, ◌∙◌}
use Rattle.std.specs.Borrow.{Bor}
use Rattle.slot_plan.specs.declared.need.Need.{Need}
use Rattle.slot_plan.specs.inner.Held.{serves}
use Rattle.slot_plan.proofs.Ordered.{starts, serves_more, serves_less}
use Rattle.slot_plan.proofs.plan.served.Goals as goal
use Rattle.slot_plan.proofs.plan.served.Goals.{then-serves+in_ok-push, else-serves}

pub loop-need-init : goal.loop-need-init
loop-need-init c = starts (serves c.args.table) c.new-goals.result.items c.new-goals.ensures.items

pub loop-need-preserved : goal.loop-need-preserved
loop-need-preserved c =
    elim c.if-serves.branch [
      | then-serves+in_ok-push w ↦ rw w.goals-is (serves_more (serves c.args.table) c.args.needs.now c.loop-need.need-index c.need-item.result c.loop-need.goals.items w.push.new.self.items _ c.loop-need-test.true (ap (λ (r : Bor Need). serves c.args.table r.now.way) (sym c.need-item.is) ∙ (sym c.serves.ensures ∙ w.if-serves.true)) (ap (λ (r : Bor Need). r.now.goal) c.need-item.is) w.in_ok-push.ensures.items c.loop-need.invariant)
      | else-serves w ↦ rw w.goals-is (serves_less (serves c.args.table) c.args.needs.now c.loop-need.need-index c.need-item.result c.loop-need.goals.items c.loop-need-test.true (ap (λ (r : Bor Need). serves c.args.table r.now.way) (sym c.need-item.is) ∙ (sym c.serves.ensures ∙ w.if-serves.false)) c.loop-need.invariant)
    ]
