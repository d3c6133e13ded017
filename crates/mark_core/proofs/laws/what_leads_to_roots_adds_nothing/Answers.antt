use Rattle.mark_core.proofs.KeptLemmas.{kept_without}
use Rattle.mark_core.proofs.laws.what_leads_to_roots_adds_nothing.Goals as goal

pub returns : goal.returns
returns c = kept_without
