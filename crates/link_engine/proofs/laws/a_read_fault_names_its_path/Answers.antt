use Rattle.link_engine.proofs.ReadLemmas.{verdict_names}
use Rattle.link_engine.proofs.laws.a_read_fault_names_its_path.Goals as goal

pub returns : goal.returns
returns c = verdict_names
