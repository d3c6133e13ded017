use Rattle.input_fetch.proofs.ToldLemmas.{missing_told}
use Rattle.input_fetch.proofs.laws.the_first_missing_input_ends_all.Goals as goal

pub returns : goal.returns
returns c = missing_told
