use Rattle.std.proofs.Common.{take}
use Rattle.literal_merge.specs.inner.Groups.{AreGroups, held_literals}
use Rattle.literal_merge.proofs.groups.groups_of.Given as goal

abbrev pub invariant-loop-literal : goal.invariant-loop-literal
invariant-loop-literal l = AreGroups (held_literals (take l.literal-index l.literals)) l.groups
