use Rattle.tbd_yaml.proofs.SoundLemmas.{file_ok}
use Rattle.stub_tests.proofs.stubs.read_bytes.Goals as goal

pub read_stubs-requires-clause-trees : goal.read_stubs-requires-clause-trees
read_stubs-requires-clause-trees c = file_ok c.args.text.now c.in-Ok.file c.in-Ok.ensures
