use Rattle.std.proofs.Common.{rules, sym, ◌∙◌}
use Rattle.liveness.proofs.ListLemmas.{spots_none, spots_step}
use Rattle.liveness.proofs.order.spots_in.Goals as goal
use Rattle.liveness.proofs.order.spots_in.Goals.{in-Some+in_ok-push-in-Some, in-None}

pub loop-at-preserved : goal.loop-at-preserved
loop-at-preserved c =
    elim c.match-get.branch [
      | in-Some+in_ok-push-in-Some w ↦
          spots_step c.args.refs.now c.loop-at.at c.loop-at.spots.items c.match-get.spots.items w.in-Some.reference c.loop-at.invariant (search rules) (sym c.get.ensures.value ∙ w.in-Some.is)
          (rw w.spots-is (search rules))
      | in-None w ↦ spots_none c.args.refs.now c.loop-at.at c.match-get.spots.items (search rules) (sym c.get.ensures.value ∙ w.in-None.is)
    ]
