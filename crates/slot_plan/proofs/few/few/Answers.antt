use Rattle.std.proofs.Common.{refl}
use Rattle.slot_plan.proofs.Ordered.{same_starts, same_pushed, same_there, same_ends}
use Rattle.slot_plan.proofs.few.few.Goals as goal
use Rattle.slot_plan.proofs.few.few.Goals.{in-Some+in_ok-note-in-Some+in_ok-push-in-Some, in-None}

pub loop-i-init : goal.loop-i-init
loop-i-init c = same_starts c.new-few.result.items c.new-few.ensures.items

pub loop-i-preserved : goal.loop-i-preserved
loop-i-preserved c =
    elim c.match-free_cell.branch [
      | in-Some+in_ok-note-in-Some+in_ok-push-in-Some w ↦ rw w.few-is (same_pushed c.args.needs.now c.loop-i.i c.index-needs-i.result c.loop-i.few.items w.push.new.self.items _ c.loop-i.invariant c.loop-i-test.true c.index-needs-i.is refl w.in_ok-push-in-Some.ensures.items)
      | in-None w ↦ rw w.few-is (same_there c.args.needs.now _ c.loop-i.i c.index-needs-i.result c.loop-i.few.items c.loop-i.invariant c.loop-i-test.true c.index-needs-i.is refl w.in-None.ensures)
    ]

pub returns : goal.returns
returns c = same_ends c.args.needs.now c.loop-i.i _ c.loop-i.invariant c.loop-i-test.false
