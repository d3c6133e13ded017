use Rattle.fixup_chain.proofs.ExistLemmas.{an_answer}
use Rattle.fixup_chain.proofs.laws.chains_or_a_fault_exist.Goals as goal

pub returns : goal.returns
returns c = an_answer
