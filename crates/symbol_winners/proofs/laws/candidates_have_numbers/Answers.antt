use Rattle.symbol_winners.proofs.NamedLemmas.{gathered_named, names_named}
use Rattle.symbol_winners.proofs.laws.candidates_have_numbers.Goals as goal

pub returns-clause-names : goal.returns-clause-names
returns-clause-names c = names_named

pub returns-clause-gathered : goal.returns-clause-gathered
returns-clause-gathered c = gathered_named
