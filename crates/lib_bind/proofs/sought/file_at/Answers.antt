use Rattle.file_cache.proofs.RunLemmas.{told_run}
use Rattle.lib_bind.specs.Closing.{IsBindFault}
use Rattle.lib_bind.specs.declared.bind_fault.BindFault.TheVariants.{ReadFault}
use Rattle.lib_bind.proofs.sought.file_at.Goals as goal

pub returns : goal.returns
returns g c = told_run g.F.Files.answers IsBindFault (ReadFault c.args.path.now) c.args.path.now c.ask-said.result _ _ _ c.said_of.ensures c.ask-said.ensures
