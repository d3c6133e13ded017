use Rattle.lib_bind.proofs.HeldLemmas.{begun_result}
use Rattle.lib_bind.proofs.closing.begun.Goals as goal

pub returns-clause-held : goal.returns-clause-held
returns-clause-held c = begun_result c.args.heads.now c.args.libraries.now c.args.files _ c.requires.heads c.requires.libraries c.all_begun.ensures
