use Rattle.atomld.proofs.ExitLemmas.{if_ok_is}
use Rattle.atomld.proofs.run.run.Goals as goal

pub returns-in-Ok-clause-links : goal.returns-in-Ok-clause-links
returns-in-Ok-clause-links g c = if_ok_is _ c.args.words c.in-Ok.words c.in-Ok.is c.link_words.ensures.links
