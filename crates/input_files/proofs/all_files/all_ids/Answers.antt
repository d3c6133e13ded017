use Rattle.input_files.proofs.GatherLemmas.{ids_gathered}
use Rattle.input_files.proofs.all_files.all_ids.Goals as goal

pub returns : goal.returns
returns c = ids_gathered c.loop-source.all.items c.args.sources.now c.loop-source.source-index c.loop-source.invariant c.loop-source-test.false
