use Rattle.std.proofs.Common.{◌≤◌, ◌-◌}
use Rattle.dyld_ops.specs.Machine.{fresh}
use Rattle.dyld_ops.proofs.RunLemmas.{IsRunning}
use Rattle.dyld_ops.proofs.run.run_table.Given as goal

abbrev pub invariant-loop-machine : goal.invariant-loop-machine
invariant-loop-machine l = IsRunning l.image l.kind l.end l.fn.part.at (fresh l.fn.fixups) l.at l.machine

abbrev pub decreases-loop-machine : goal.decreases-loop-machine
decreases-loop-machine l = l.end - l.at
