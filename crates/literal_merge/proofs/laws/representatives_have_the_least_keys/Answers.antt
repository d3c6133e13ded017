use Rattle.literal_merge.proofs.RepresentativeLemmas.{is_least}
use Rattle.literal_merge.proofs.laws.representatives_have_the_least_keys.Goals as goal

pub returns : goal.returns
returns c = is_least
