use Rattle.lib_bind.proofs.EndLemmas.{tried_goes_on}
use Rattle.lib_bind.proofs.laws.what_is_tried_goes_on.Goals as goal

pub returns : goal.returns
returns c = tried_goes_on
