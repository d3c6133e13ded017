use Rattle.symbol_winners.proofs.OneListLemmas.{one_duplicate}
use Rattle.symbol_winners.proofs.laws.duplicates_are_one.Goals as goal

pub returns : goal.returns
returns c = one_duplicate
