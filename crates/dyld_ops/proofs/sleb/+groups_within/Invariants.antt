use Rattle.dyld_ops.proofs.sleb.+groups_within.Given as goal

abbrev pub decreases-groups_within : goal.decreases-groups_within
decreases-groups_within l = l.most
