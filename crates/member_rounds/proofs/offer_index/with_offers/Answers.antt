use Rattle.member_rounds.proofs.OfferedLemmas.{offers_step}
use Rattle.member_rounds.proofs.offer_index.with_offers.Goals as goal

pub loop-at-preserved : goal.loop-at-preserved
loop-at-preserved c = offers_step c.args.before c.loop-at.files c.in_ok-files-in-Some.files c.args.source.now.input c.args.offers.now c.loop-at.at c.in-Some.name.now c.in-Some.field-0-1 c.loop-at.invariant c.in-Some.ensures c.in_ok-files-in-Some.ensures
