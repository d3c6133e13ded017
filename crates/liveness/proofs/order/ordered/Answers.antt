use Rattle.std.proofs.Common.{rules}
use Rattle.liveness.proofs.RunsLemmas.{turned_again, turned_sorted}
use Rattle.liveness.proofs.order.ordered.Goals as goal
use Rattle.liveness.proofs.order.ordered.Goals.{then-not-never_fall+in_ok-put_in_order, else-not-never_fall}

pub returns : goal.returns
returns c =
    elim c.if-not-never_fall.branch [
      | then-not-never_fall+in_ok-put_in_order w ↦
          rw w.spots-is
          (turned_again c.args.spots.items c.in_ok-spots.spots.items _ (search rules) (search rules) (search rules) (search rules))
      | else-not-never_fall w ↦
          rw w.spots-is
          (turned_sorted c.args.spots.items c.in_ok-spots.spots.items (search rules) (search rules))
    ]
