use Rattle.mo_outside.proofs.Found.{files_of_pairs}
use Rattle.mo_outside.proofs.file_maps.MemFiles.new.Goals as goal

pub returns-clause-holds : goal.returns-clause-holds
returns-clause-holds c = files_of_pairs c.args.pairs c.requires
