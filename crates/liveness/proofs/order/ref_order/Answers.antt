use Rattle.std.proofs.Common.{map, ap, ◌∙◌}
use Rattle.liveness.specs.declared.order.Spot.{Spot}
use Rattle.liveness.proofs.IndexLemmas.{indices_in_order}
use Rattle.liveness.proofs.order.ref_order.Goals as goal

pub returns : goal.returns
returns c =
    indices_in_order c.args.refs.now c.in_ok-spots_in.field-0.items c.in_ok-spots.spots.items c.from_vec.result c.in_ok-spots_in.ensures c.in_ok-spots.ensures
    (c.from_vec.ensures ∙ c.in_ok-indices_of.ensures ∙ ap (map (λ (spot : Spot). spot.index)) c.as_slice.ensures.value)
