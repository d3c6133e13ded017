use Rattle.tbd_yaml.proofs.GrammarLemmas.{file_grammar}
use Rattle.tbd_yaml.proofs.laws.what_is_read_is_in_the_grammar.Goals as goal

pub returns : goal.returns
returns c = file_grammar
