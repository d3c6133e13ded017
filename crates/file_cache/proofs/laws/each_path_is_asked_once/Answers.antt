use Rattle.file_cache.proofs.RunLemmas.{fresh_new}
use Rattle.file_cache.proofs.laws.each_path_is_asked_once.Goals as goal

pub returns : goal.returns
returns c = fresh_new
