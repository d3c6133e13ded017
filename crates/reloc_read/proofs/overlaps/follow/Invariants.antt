use Rattle.reloc_read.proofs.ApartLemmas.{FollowTo}
use Rattle.reloc_read.proofs.overlaps.follow.Given as goal

abbrev pub invariant-loop-at : goal.invariant-loop-at
invariant-loop-at l = FollowTo l.found l.at
