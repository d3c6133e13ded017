use Rattle.symbol_winners.proofs.ReadingLemmas.{same_files}
use Rattle.symbol_winners.proofs.laws.the_order_of_reading_is_nothing.Goals as goal

pub returns : goal.returns
returns c = same_files
