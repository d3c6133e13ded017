use Rattle.dyld_ops.proofs.RunLemmas.{no_step, run_stops}
use Rattle.dyld_ops.proofs.run.run_table.Goals as goal

pub returns : goal.returns
returns c =
    let parts = no_step _ _ _ _ c.in_ok-next.ensures.exact c.in_default.not-Some in
    rw parts.1 (run_stops _ _ _ _ _ _ c.if-image-end.false c.loop-machine.invariant parts.0)
