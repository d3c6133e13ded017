use Rattle.std.proofs.Common.{arith, rules}
use Rattle.ref_meet.proofs.BindLemmas.{slot_bind_is, slots_end, slots_more}
use Rattle.ref_meet.proofs.binds.add_slots.Goals as goal

pub loop-goal-preserved : goal.loop-goal-preserved
loop-goal-preserved c =
    slots_more c.args.goals.now c.loop-goal.goal-index c.goal-item.result c.in_ok-clone.field-0 c.unplaced.result c.args.out.now.items c.loop-goal.out.items c.push.new.self.items c.loop-goal.invariant c.loop-goal-test.true (search rules)
    (search rules) (slot_bind_is c.in_ok-clone.field-0 c.unplaced.result c.unplaced.ensures) c.in_ok-push.ensures.items

pub returns : goal.returns
returns c = slots_end c.args.goals.now c.loop-goal.goal-index c.args.out.now.items c.loop-goal.out.items c.loop-goal.invariant (omega arith)
