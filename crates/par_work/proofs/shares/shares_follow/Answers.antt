use Rattle.par_work.proofs.Quotients.{last_is}
use Rattle.par_work.proofs.shares.shares_follow.Goals as goal

pub returns-clause-last : goal.returns-clause-last
returns-clause-last c = last_is c.args.jobs c.args.workers c.requires
