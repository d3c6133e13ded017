use Rattle.member_rounds.proofs.GrowthLemmas.{round_within}
use Rattle.member_rounds.proofs.laws.rounds_grow.Goals as goal

pub returns-clause-within : goal.returns-clause-within
returns-clause-within c = round_within
