use Rattle.slot_place.proofs.NumberLemmas.{found, found_within}
use Rattle.slot_place.proofs.places.number_of.Goals as goal

pub returns-clause-exact : goal.returns-clause-exact
returns-clause-exact c = found c.args.goals.now c.args.goal.now c.place_of.result c.as_slice-rising.ensures.rising c.place_of.ensures

pub returns-clause-within : goal.returns-clause-within
returns-clause-within c = found_within c.args.goals.now c.args.goal.now c.place_of.result c.place_of.ensures
