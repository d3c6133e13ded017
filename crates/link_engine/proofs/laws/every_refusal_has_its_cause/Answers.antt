use Rattle.link_engine.proofs.LawLemmas.{stop_causes}
use Rattle.link_engine.proofs.laws.every_refusal_has_its_cause.Goals as goal

pub returns : goal.returns
returns c = stop_causes
