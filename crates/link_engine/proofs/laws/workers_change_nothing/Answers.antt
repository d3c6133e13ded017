use Rattle.link_engine.proofs.LawLemmas.{same_command}
use Rattle.link_engine.proofs.laws.workers_change_nothing.Goals as goal

pub returns : goal.returns
returns c = same_command
