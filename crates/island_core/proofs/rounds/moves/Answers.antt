use Rattle.std.proofs.Common.{◌≡◌, ◌<◌, ◌^◌, List, ℕ, length, subst, ◌∙◌, ap, arith}
use Rattle.island_core.proofs.CountLemmas.{moving_ends, moving_goes, moving_starts}
use Rattle.island_core.proofs.rounds.moves.Goals as goal

pub loop-count-init : goal.loop-count-init
loop-count-init c = moving_starts c.args.scale.now.unit c.args.set.now c.new-moves.result.items c.new-moves.ensures.items

pub loop-count-preserved : goal.loop-count-preserved
loop-count-preserved c =
    moving_goes c.args.scale.now.unit c.args.set.now c.loop-count.moves.items c.push.new.self.items c.in_ok-counts.counts.items c.as_slice-count-items.result.now c.loop-count.bytes c.loop-count.count-index c.area_bytes-bytes.result
    c.loop-count.invariant c.in_ok-push.ensures.items (subst (λ (ms : List ℕ). length ms < 2 ^ 59) c.as_slice.ensures.value c.moves_are_few.ensures)
    c.in_ok-counts.ensures.each c.as_slice-count-items.ensures.value c.loop-count-test.true c.area_bytes-bytes.ensures.exact c.area_bytes-bytes.ensures.small

pub returns : goal.returns
returns c =
    let long : length c.as_slice-count-items.result.now ≡ c.args.scale.now.groups = ap length c.as_slice-count-items.ensures.value ∙ c.in_ok-counts.ensures.all in
    moving_ends c.args.scale.now c.args.set.now c.loop-count.moves.items c.push-2.new.self.items c.loop-count.bytes c.loop-count.count-index
    c.loop-count.invariant (omega (arith, long, c.loop-count-test.false, c.loop-count.auto.count-index-end)) c.in_ok-push-2.ensures.items
