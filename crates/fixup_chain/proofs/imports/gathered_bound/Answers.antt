use Rattle.std.proofs.Common.{◌||◌, Bool, ap}
use Rattle.fixup_chain.proofs.UseLemmas.{holding_goes_on}
use Rattle.fixup_chain.proofs.imports.gathered_bound.Goals as goal

pub loop-fixup-preserved : goal.loop-fixup-preserved
loop-fixup-preserved c =
    holding_goes_on c.args.fixups.now c.loop-fixup.fixup-index c.loop-fixup.imports.keys c.hold.new.imports.keys c.loop-fixup.held.items c.push.new.self.items c.loop-fixup.large _ c.fixup-item.result c.in_ok-one.one
    c.loop-fixup.invariant c.loop-fixup-test.true c.fixup-item.is c.in_ok-one.ensures.keys c.in_ok-one.ensures.place c.in_ok-push.ensures.items
    (ap (λ (b : Bool). c.loop-fixup.large || b) c.is_large-large.ensures)
