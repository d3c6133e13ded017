use Rattle.symbol_winners.proofs.OneLemmas.{one_winner}
use Rattle.symbol_winners.proofs.laws.a_name_has_one_winner.Goals as goal

pub returns : goal.returns
returns c = one_winner
