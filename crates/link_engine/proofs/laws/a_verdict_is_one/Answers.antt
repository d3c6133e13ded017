use Rattle.link_engine.proofs.LawLemmas.{one_verdict}
use Rattle.link_engine.proofs.laws.a_verdict_is_one.Goals as goal

pub returns : goal.returns
returns c = one_verdict
