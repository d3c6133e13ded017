use Rattle.std.proofs.Common.{rules, refl, ◌+◌}
use Rattle.liveness.proofs.RunsLemmas.{run_ends, run_goes_on}
use Rattle.liveness.proofs.order.turned.Goals as goal
use Rattle.liveness.proofs.order.turned.Goals.{then-ends_run+in_ok-new-2, else-ends_run}

pub loop-last-preserved : goal.loop-last-preserved
loop-last-preserved c =
    elim c.if-ends_run.branch [
      | then-ends_run+in_ok-new-2 w ↦
          rw (w.new-is, w.start-is)
          (run_ends c.args.spots.now c.loop-last.new.items w.in_ok-new-2.new.items c.loop-last.last c.loop-last.start (c.loop-last.last + 1) c.loop-last.invariant refl (search rules))
      | else-ends_run w ↦
          rw (w.new-is, w.start-is)
          (run_goes_on c.args.spots.now c.loop-last.new.items c.loop-last.last c.loop-last.start c.loop-last.invariant (c.ends_run.ensures.falls w.if-ends_run.false) (search rules))
    ]
