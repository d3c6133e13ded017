use Rattle.std.proofs.Common.{refl, sym, ◌∙◌}
use Rattle.mo_ar.proofs.OrderLemmas.{halving_goes_down, halving_goes_up}
use Rattle.mo_ar.proofs.order.rank.Goals as goal

pub loop-low-preserved-then-is_before : goal.loop-low-preserved-then-is_before
loop-low-preserved-then-is_before c =
    halving_goes_up c.args.strings.now c.args.order.now c.args.name.now c.loop-low.low c.loop-low.high _ (record { at = 0; size = 0; member = 0 }) c.name_of.result.now
    c.loop-low.invariant c.loop-low-test.true refl c.name_of.ensures (sym c.is_before.ensures ∙ c.if-is_before.true)

pub loop-low-preserved : goal.loop-low-preserved
loop-low-preserved c =
    halving_goes_down c.args.strings.now c.args.order.now c.args.name.now c.loop-low.low c.loop-low.high _ (record { at = 0; size = 0; member = 0 }) c.name_of.result.now
    c.loop-low.invariant c.loop-low-test.true refl c.name_of.ensures (sym c.is_before.ensures ∙ c.if-is_before.false)
