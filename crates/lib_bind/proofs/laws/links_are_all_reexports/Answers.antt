use Rattle.lib_bind.proofs.LinkLemmas.{links_are}
use Rattle.lib_bind.proofs.NearLemmas.{here_named}
use Rattle.lib_bind.proofs.laws.links_are_all_reexports.Goals as goal

pub returns-clause-links : goal.returns-clause-links
returns-clause-links c = links_are

pub returns-clause-here : goal.returns-clause-here
returns-clause-here c = here_named
