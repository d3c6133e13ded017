use Rattle.input_read.proofs.OpenedLemmas.{stubs_named}
use Rattle.input_read.proofs.laws.stub_libraries_are_named.Goals as goal

pub returns : goal.returns
returns c = stubs_named
