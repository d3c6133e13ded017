use Rattle.std.proofs.Common.{◌≡◌, List, map, take}
use Rattle.literal_merge.specs.Representatives.{Literal, representative_of}
use Rattle.literal_merge.specs.inner.Groups.{AreGroups, held_literals}
use Rattle.literal_merge.proofs.groups.list.Given as goal

abbrev pub invariant-loop-literal : goal.invariant-loop-literal
invariant-loop-literal l = (all : List Literal) → AreGroups all l.groups → l.list.items ≡ map (representative_of all) (held_literals (take l.literal-index l.literals))
