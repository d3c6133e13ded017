use Rattle.input_files.proofs.PlaceLemmas.{first_there}
use Rattle.input_files.proofs.contents.is_first.Goals as goal

pub returns-in-Some : goal.returns-in-Some
returns-in-Some c = first_there c.args.sources.now c.args.id c.in-Some.source.now c.comes_first.result c.requires c.in-Some.ensures c.comes_first.ensures
