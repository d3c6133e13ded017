use Rattle.tlv_plan.proofs.Walk.{rounds, never_past}
use Rattle.tlv_plan.proofs.place.up.Goals as goal

pub returns-in-Some : goal.returns-in-Some
returns-in-Some c = rounds c.args.align c.args.at c.in-Some.place c.in-Some.ensures.exact c.requires.fits

pub returns-in-None : goal.returns-in-None
returns-in-None c = absurd (never_past c.args.align c.args.at c.in-None.ensures.exact c.requires.fits)
