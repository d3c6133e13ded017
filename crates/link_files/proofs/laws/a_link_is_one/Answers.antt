use Rattle.link_files.proofs.OneLemmas.{link_one}
use Rattle.link_files.proofs.laws.a_link_is_one.Goals as goal

pub returns : goal.returns
returns c = link_one
