use Rattle.std.proofs.Common.{◌∙◌}
use Rattle.ref_meet.proofs.ToldLemmas.{exact}
use Rattle.ref_meet.proofs.addresses.goal_address.Goals as goal

pub returns : goal.returns
returns c = c.own_address.ensures ∙ exact c.args.base c.args.layout.now.placed c.args.goal.now c.ranges.base.fits c.requires.low c.requires.near
