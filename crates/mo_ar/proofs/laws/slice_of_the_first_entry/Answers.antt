use Rattle.mo_ar.proofs.LawLemmas.{slice_alone}
use Rattle.mo_ar.proofs.laws.slice_of_the_first_entry.Goals as goal

pub returns-clause-alone : goal.returns-clause-alone
returns-clause-alone c = λ from size is. slice_alone c.args.bytes.now from size is
