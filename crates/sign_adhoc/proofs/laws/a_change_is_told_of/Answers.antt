use Rattle.sign_adhoc.proofs.ChangedLemmas.{first_other, good}
use Rattle.sign_adhoc.proofs.laws.a_change_is_told_of.Goals as goal

pub returns : goal.returns
returns c = record { good = good; first = first_other }
