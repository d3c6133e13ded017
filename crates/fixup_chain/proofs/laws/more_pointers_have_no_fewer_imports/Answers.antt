use Rattle.fixup_chain.proofs.ManyLemmas.{more_are_many}
use Rattle.fixup_chain.proofs.laws.more_pointers_have_no_fewer_imports.Goals as goal

pub returns : goal.returns
returns c = more_are_many
