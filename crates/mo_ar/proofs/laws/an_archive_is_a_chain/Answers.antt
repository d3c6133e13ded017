use Rattle.mo_ar.proofs.LawLemmas.{archive_alone}
use Rattle.mo_ar.proofs.laws.an_archive_is_a_chain.Goals as goal

pub returns-clause-alone : goal.returns-clause-alone
returns-clause-alone c = λ archive is. archive_alone c.args.bytes.now archive is
