use Rattle.link_gen.proofs.draws.+steps_of.Given as goal

abbrev pub decreases-steps_of : goal.decreases-steps_of
decreases-steps_of l = l.count
