use Rattle.std.proofs.Common.{arith, length, ◌-◌, ◌+◌}
use Rattle.liveness.proofs.TurnLemmas.{behind_begins, behind_goes_on}
use Rattle.liveness.proofs.order.with_turned.Goals as goal
use Rattle.liveness.proofs.order.with_turned.Goals.{then-begins+in_ok-extend_from_slice, else-begins}

pub loop-step-preserved : goal.loop-step-preserved
loop-step-preserved c =
    elim c.if-begins.branch [
      | then-begins+in_ok-extend_from_slice w ↦
          rw (w.new-is, w.end-is)
          (behind_begins c.args.before.items c.args.spots.now c.loop-step.new.items _ (length c.args.spots.now - c.loop-step.step) c.loop-step.end (length c.args.spots.now - 1 - c.loop-step.step) (length c.args.spots.now - (c.loop-step.step + 1))
          c.requires c.loop-step.invariant (omega (arith, c.loop-step-test.true)) (omega arith) (c.begins.ensures.other w.if-begins.true) w.in_ok-extend_from_slice.ensures.items)
      | else-begins w ↦
          rw (w.new-is, w.end-is)
          (behind_goes_on c.args.before.items c.args.spots.now c.loop-step.new.items (length c.args.spots.now - c.loop-step.step) c.loop-step.end (length c.args.spots.now - 1 - c.loop-step.step) (length c.args.spots.now - (c.loop-step.step + 1))
          c.loop-step.invariant (omega (arith, c.loop-step-test.true)) (omega arith) (c.begins.ensures.same w.if-begins.false))
    ]
