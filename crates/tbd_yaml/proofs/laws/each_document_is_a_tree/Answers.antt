use Rattle.tbd_yaml.proofs.SoundLemmas.{file_ok}
use Rattle.tbd_yaml.proofs.laws.each_document_is_a_tree.Goals as goal

pub returns : goal.returns
returns c = file_ok
