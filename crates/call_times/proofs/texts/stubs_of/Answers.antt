use Rattle.tbd_yaml.proofs.SoundLemmas.{file_ok}
use Rattle.call_times.proofs.texts.stubs_of.Goals as goal

pub read_stubs-requires-clause-trees : goal.read_stubs-requires-clause-trees
read_stubs-requires-clause-trees c = file_ok c.args.text.now c.in_ok-file.file c.in_ok-file.ensures
