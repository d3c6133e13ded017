use Rattle.link_engine.proofs.LinkLemmas.{settles_complete}
use Rattle.link_engine.proofs.laws.an_answer_is_complete.Goals as goal

pub returns : goal.returns
returns c = settles_complete
