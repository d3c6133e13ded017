use Rattle.symbol_winners.proofs.ExistLemmas.{table_exists}
use Rattle.symbol_winners.proofs.laws.a_symbol_table_exists.Goals as goal

pub returns : goal.returns
returns c = table_exists
