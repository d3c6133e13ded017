use Rattle.link_gen.proofs.NumberLemmas.{found_place, not_missing}
use Rattle.link_gen.proofs.numbers.place_of.Goals as goal

pub returns-in-Ok-clause-within : goal.returns-in-Ok-clause-within
returns-in-Ok-clause-within c = (found_place c.args.numbers.now c.args.i c.in-Ok.place c.binary_search.result c.in-Ok.is c.binary_search.ensures.position c.requires.rises).0

pub returns-in-Ok-clause-value : goal.returns-in-Ok-clause-value
returns-in-Ok-clause-value c = (found_place c.args.numbers.now c.args.i c.in-Ok.place c.binary_search.result c.in-Ok.is c.binary_search.ensures.position c.requires.rises).1

pub returns-in-Err-clause-within : goal.returns-in-Err-clause-within
returns-in-Err-clause-within c = absurd (not_missing c.args.numbers.now c.args.i c.in-Err.place c.binary_search.result c.in-Err.is c.binary_search.ensures.position c.requires.rises c.requires.there)

pub returns-in-Err-clause-value : goal.returns-in-Err-clause-value
returns-in-Err-clause-value c = absurd (not_missing c.args.numbers.now c.args.i c.in-Err.place c.binary_search.result c.in-Err.is c.binary_search.ensures.position c.requires.rises c.requires.there)
