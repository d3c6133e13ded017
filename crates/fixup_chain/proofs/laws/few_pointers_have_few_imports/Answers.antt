use Rattle.fixup_chain.proofs.ManyLemmas.{few_bound}
use Rattle.fixup_chain.proofs.laws.few_pointers_have_few_imports.Goals as goal

pub returns : goal.returns
returns c = few_bound
