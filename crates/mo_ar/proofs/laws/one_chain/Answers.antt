use Rattle.mo_ar.proofs.LawLemmas.{chain_there}
use Rattle.mo_ar.proofs.laws.one_chain.Goals as goal

pub returns-clause-is : goal.returns-clause-is
returns-clause-is c = λ at. chain_there c.args.bytes.now at
