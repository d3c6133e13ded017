use Rattle.chain_laws.proofs.FoundLemmas.{each_pointer, no_others}
use Rattle.chain_laws.proofs.laws.the_loader_finds_each_pointer.Goals as goal

pub returns-clause-pointers : goal.returns-clause-pointers
returns-clause-pointers c = each_pointer

pub returns-clause-others : goal.returns-clause-others
returns-clause-others c = no_others
