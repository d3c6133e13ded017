use Rattle.symbol_winners.proofs.TwoLeast.{first_word, two_least}
use Rattle.symbol_winners.proofs.laws.duplicates_have_the_least_words.Goals as goal

pub returns-clause-files : goal.returns-clause-files
returns-clause-files c = two_least

pub returns-clause-race : goal.returns-clause-race
returns-clause-race c = first_word
