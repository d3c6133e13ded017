use Rattle.std.proofs.Common.{◌∙◌}
use Rattle.std.proofs.lemmas.List.{take_rest}
use Rattle.slot_plan.proofs.Fronts.{decided}
use Rattle.slot_plan.proofs.order.compare_names.Goals as goal

pub returns : goal.returns
returns c =
    c.cmp.ensures
    ∙ decided c.args.a.now c.args.b.now _ _ c.same_front-same.result
    (take_rest c.args.a.now c.same_front-same.result)
    (take_rest c.args.b.now c.same_front-same.result)
    c.same_front-same.ensures.first c.same_front-same.ensures.second c.same_front-same.ensures.same
