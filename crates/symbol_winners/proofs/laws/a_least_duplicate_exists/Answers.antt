use Rattle.symbol_winners.proofs.ExistLemmas.{duplicate_exists}
use Rattle.symbol_winners.proofs.laws.a_least_duplicate_exists.Goals as goal

pub returns : goal.returns
returns c = duplicate_exists
