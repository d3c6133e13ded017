use Rattle.std.proofs.Common.{◌-◌, length}
use Rattle.mo_ar.proofs.ChainLemmas.{IsWalking}
use Rattle.mo_ar.proofs.chain.walk.Given as goal

abbrev pub invariant-loop-members : goal.invariant-loop-members
invariant-loop-members l = IsWalking l.bytes l.from l.places.items l.members.items l.at

abbrev pub decreases-loop-members : goal.decreases-loop-members
decreases-loop-members l = length l.bytes - l.at
