use Rattle.input_fetch.proofs.ToldLemmas.{there_told}
use Rattle.input_fetch.proofs.laws.contents_are_the_first_that_are_there.Goals as goal

pub returns : goal.returns
returns c = there_told
