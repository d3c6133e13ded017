use Rattle.name_ids.proofs.Any.{extra_are_names, files_are_names, gathered_are_names}
use Rattle.name_ids.proofs.laws.names_grow.Goals as goal

pub returns-clause-files : goal.returns-clause-files
returns-clause-files c = files_are_names

pub returns-clause-extra : goal.returns-clause-extra
returns-clause-extra c = extra_are_names

pub returns-clause-gathered : goal.returns-clause-gathered
returns-clause-gathered c = gathered_are_names
