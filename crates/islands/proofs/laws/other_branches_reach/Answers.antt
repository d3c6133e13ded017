use Rattle.islands.proofs.Reached.{reached}
use Rattle.islands.proofs.laws.other_branches_reach.Goals as goal

pub returns : goal.returns
returns c = λ kept before after branches reach plan k branch is p laid at code word none. reached kept before branches reach plan is p after laid k branch at code word none
