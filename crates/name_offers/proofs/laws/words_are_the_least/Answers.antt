use Rattle.name_offers.proofs.LeastLemmas.{least_after, least_from_none}
use Rattle.name_offers.proofs.laws.words_are_the_least.Goals as goal

pub returns-clause-after : goal.returns-clause-after
returns-clause-after c = least_after

pub returns-clause-first : goal.returns-clause-first
returns-clause-first c = least_from_none
