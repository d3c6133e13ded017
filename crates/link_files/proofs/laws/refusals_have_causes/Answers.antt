use Rattle.link_files.proofs.CauseLemmas.{link_stops}
use Rattle.link_files.proofs.laws.refusals_have_causes.Goals as goal

pub returns : goal.returns
returns c = link_stops
