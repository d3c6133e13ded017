use Rattle.tbd_yaml.proofs.SoundLemmas.{file_ok}
use Rattle.lib_bind.proofs.FewLemmas.{few_docs}
use Rattle.lib_bind.proofs.stub_text.read_stub_text.Goals as goal

pub stubs_of-requires-clause-few : goal.stubs_of-requires-clause-few
stubs_of-requires-clause-few c = few_docs c.args.bytes.now c.in_ok-file.file c.in_ok-file.ensures.read c.requires

pub stubs_of-requires-clause-trees : goal.stubs_of-requires-clause-trees
stubs_of-requires-clause-trees c = file_ok c.args.bytes.now c.in_ok-file.file c.in_ok-file.ensures.read
