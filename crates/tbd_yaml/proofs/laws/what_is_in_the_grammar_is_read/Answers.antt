use Rattle.tbd_yaml.proofs.ConverseLemmas.{grammar_file}
use Rattle.tbd_yaml.proofs.laws.what_is_in_the_grammar_is_read.Goals as goal

pub returns : goal.returns
returns c = grammar_file
