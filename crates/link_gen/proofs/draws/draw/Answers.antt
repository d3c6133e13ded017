use Rattle.std.proofs.Common.{ℕ, ◌%◌, ap, arith}
use Rattle.link_gen.proofs.DrawLemmas.{drawing_goes_on}
use Rattle.link_gen.proofs.draws.draw.Goals as goal

pub loop-number-preserved : goal.loop-number-preserved
loop-number-preserved c =
    drawing_goes_on _ _ _ _ c.next-x.result _ _ _ c.loop-number.invariant c.next-x.ensures (omega arith)
    (ap (λ (z : ℕ). z % c.args.count) (omega arith)) c.in_ok-push.ensures.items
