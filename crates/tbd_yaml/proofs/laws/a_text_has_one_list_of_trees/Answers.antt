use Rattle.tbd_yaml.proofs.ConverseLemmas.{grammar_one}
use Rattle.tbd_yaml.proofs.laws.a_text_has_one_list_of_trees.Goals as goal

pub returns : goal.returns
returns c = grammar_one
