use Rattle.std.proofs.Common.{◌<◌, ℕ, ap, ◌∙◌, subst}
use Rattle.liveness.specs.Order.{place_at}
use Rattle.liveness.proofs.RunLemmas.{point_upper, same_element}
use Rattle.liveness.proofs.run.end_of_run.Goals as goal

pub returns-then-place_at-at-clause-point : goal.returns-then-place_at-at-clause-point
returns-then-place_at-at-clause-point c =
    point_upper c.args.refs.now c.args.order.now c.args.at c.loop-to.to c.requires.sorted c.loop-to.invariant
    (λ e low. subst (λ (n : ℕ). c.args.at < n) (c.place_at.ensures ∙ ap (place_at c.args.refs.now) (same_element c.args.order.now c.loop-to.to _ e low)) c.if-place_at-at.true)
