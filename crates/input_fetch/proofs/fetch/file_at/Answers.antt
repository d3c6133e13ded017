use Rattle.file_cache.proofs.RunLemmas.{told_run}
use Rattle.input_fetch.specs.Contents.{IsFetchStop}
use Rattle.input_fetch.specs.declared.stop.FetchStop.TheVariants.{ReadFault}
use Rattle.input_fetch.proofs.fetch.file_at.Goals as goal

pub returns : goal.returns
returns g c = told_run g.F.Files.answers IsFetchStop (ReadFault c.args.path.now) c.args.path.now c.ask-asked.result c.passed.result _ _ c.passed.ensures c.ask-asked.ensures
