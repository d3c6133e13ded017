use Rattle.std.proofs.Common.{All, take}
use Rattle.islands.specs.Plan.{IsInAtoms}
use Rattle.call_times.proofs.plans.are_within.Given as goal

abbrev pub invariant-loop-branch : goal.invariant-loop-branch
invariant-loop-branch l = All (IsInAtoms l.kept) (take l.branch-index l.branches)
