use Rattle.file_cache.proofs.RunLemmas.{told_gave}
use Rattle.file_cache.proofs.laws.answers_are_what_is_told.Goals as goal

pub returns : goal.returns
returns c = told_gave
