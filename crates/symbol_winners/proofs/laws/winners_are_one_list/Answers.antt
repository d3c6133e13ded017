use Rattle.symbol_winners.proofs.OneListLemmas.{winners_are_one}
use Rattle.symbol_winners.proofs.laws.winners_are_one_list.Goals as goal

pub returns : goal.returns
returns c = winners_are_one
