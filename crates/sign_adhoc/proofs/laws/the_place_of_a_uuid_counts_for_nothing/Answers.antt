use Rattle.sign_adhoc.proofs.UuidLemmas.{same_uuid}
use Rattle.sign_adhoc.proofs.laws.the_place_of_a_uuid_counts_for_nothing.Goals as goal

pub returns : goal.returns
returns c = same_uuid
