use Rattle.tbd_yaml.proofs.ConverseLemmas.{grammar_refused}
use Rattle.tbd_yaml.proofs.laws.what_is_refused_is_not_in_the_grammar.Goals as goal

pub returns : goal.returns
returns c = grammar_refused
