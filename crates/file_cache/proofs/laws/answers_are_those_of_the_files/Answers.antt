use Rattle.file_cache.proofs.RunLemmas.{files_gave}
use Rattle.file_cache.proofs.laws.answers_are_those_of_the_files.Goals as goal

pub returns : goal.returns
returns c = files_gave
