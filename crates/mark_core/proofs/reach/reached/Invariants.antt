use Rattle.std.proofs.Common.{◌-◌, ◌^◌}
use Rattle.mark_core.proofs.ReachLemmas.{IsReaching}
use Rattle.mark_core.proofs.reach.reached.Given as goal

abbrev pub invariant-atoms : goal.invariant-atoms
invariant-atoms l = IsReaching l.arrows l.roots l.found.keys l.at

abbrev pub decreases-atoms : goal.decreases-atoms
decreases-atoms l = 2 ^ 64 - l.at
