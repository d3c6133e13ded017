use Rattle.std.proofs.Common.{◌≡◌, take}
use Rattle.lib_bind.proofs.reach.list_of.Given as goal

abbrev pub invariant-loop-at : goal.invariant-loop-at
invariant-loop-at l = l.list.items ≡ take l.at l.found.keys
