use Rattle.std.proofs.Common.{◌-◌, length, drop}
use Rattle.yaml_text.specs.Flow as flow
use Rattle.yaml_text.proofs.FlowLemmas.{IsFlowing}
use Rattle.yaml_text.proofs.flow.flow_of.Given as goal

abbrev pub invariant-loop-state : goal.invariant-loop-state
invariant-loop-state l = IsFlowing l.place l.line l.at l.spaced l.state (flow.flow_of l.place l.wants l.fn.start.spaced l.fn.events (drop l.fn.start.at l.line))

abbrev pub decreases-loop-state : goal.decreases-loop-state
decreases-loop-state l = length l.line - l.at
