use Rattle.fixup_chain.proofs.OneLemmas.{no_other_cause, same_cause, same_chains}
use Rattle.fixup_chain.proofs.laws.an_answer_is_one.Goals as goal

pub returns-clause-chains : goal.returns-clause-chains
returns-clause-chains c = same_chains

pub returns-clause-fault : goal.returns-clause-fault
returns-clause-fault c = same_cause

pub returns-clause-apart : goal.returns-clause-apart
returns-clause-apart c = no_other_cause
