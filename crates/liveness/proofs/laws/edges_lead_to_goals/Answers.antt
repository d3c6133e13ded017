use Rattle.liveness.proofs.FollowLemmas.{edges_follow}
use Rattle.liveness.proofs.laws.edges_lead_to_goals.Goals as goal

pub returns : goal.returns
returns c = edges_follow
