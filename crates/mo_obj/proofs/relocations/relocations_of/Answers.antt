use Rattle.mo_obj.proofs.RelocationLemmas.{told_ok}
use Rattle.mo_obj.proofs.relocations.relocations_of.Goals as goal

pub returns-in-Ok-clause-feature : goal.returns-in-Ok-clause-feature
returns-in-Ok-clause-feature c = told_ok c.args.object.now c.in-Ok.found.feature c.in-Ok.ensures.feature
