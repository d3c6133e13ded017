use Rattle.sign_adhoc.proofs.GoodLemmas.{is_signed}
use Rattle.sign_adhoc.proofs.laws.what_is_signed_is_found_so.Goals as goal

pub returns : goal.returns
returns c = is_signed
