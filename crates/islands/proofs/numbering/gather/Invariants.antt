use Rattle.std.proofs.Common.{map, take}
use Rattle.islands.specs.declared.branch.Branch.{Branch}
use Rattle.islands.specs.inner.Held.{HasTheSame, targets_behind}
use Rattle.islands.proofs.numbering.gather.Given as goal

abbrev pub invariant-loop-branch : goal.invariant-loop-branch
invariant-loop-branch l = HasTheSame (map (λ (branch : Branch). branch.target) (take l.branch-index l.branches)) (targets_behind l.keyed.items)
