use Rattle.std.proofs.Common.{arith}
use Rattle.image_make.proofs.CommonLemmas.{in_turn, of_file}
use Rattle.image_make.proofs.commons.commons_of.Goals as goal

pub slice_bounds-result-start : goal.slice_bounds-result-start
slice_bounds-result-start c = let turn = in_turn c.args.id c.args.atoms.now c.count_below-start.result c.count_up_to-end.result c.count_below-start.ensures c.count_up_to-end.ensures in omega (arith, turn)

pub slice_bounds-result-count : goal.slice_bounds-result-count
slice_bounds-result-count c = let turn = in_turn c.args.id c.args.atoms.now c.count_below-start.result c.count_up_to-end.result c.count_below-start.ensures c.count_up_to-end.ensures in omega (arith, turn)

pub returns : goal.returns
returns c = of_file c.args.id c.args.atoms.now c.count_below-start.result c.count_up_to-end.result c.count_below-start.ensures c.count_up_to-end.ensures
