use Rattle.link_files.proofs.ExistLemmas.{link_exists}
use Rattle.link_files.proofs.laws.a_link_exists.Goals as goal

pub returns : goal.returns
returns c = link_exists
