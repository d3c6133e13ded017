use Rattle.literal_merge.proofs.RepresentativeLemmas.{share}
use Rattle.literal_merge.proofs.laws.the_same_literals_have_one_representative.Goals as goal

pub returns : goal.returns
returns c = share
