use Rattle.link_engine.proofs.ExistLemmas.{verdict_exists}
use Rattle.link_engine.proofs.laws.a_verdict_exists.Goals as goal

pub returns : goal.returns
returns c = verdict_exists
