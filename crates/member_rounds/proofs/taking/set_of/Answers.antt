use Rattle.std.proofs.Common.{rules}
use Rattle.member_rounds.proofs.TakeLemmas.{listed_step}
use Rattle.member_rounds.proofs.taking.set_of.Goals as goal

pub loop-id-preserved : goal.loop-id-preserved
loop-id-preserved c = listed_step c.args.ids.now c.loop-id.id-index c.loop-id.set c.in_ok-set.set _ c.loop-id.invariant c.loop-id-test.true (search rules) c.in_ok-set.ensures
