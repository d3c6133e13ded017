use Rattle.std.proofs.Common.{rules}
use Rattle.fold_code.proofs.FirstLemmas.{so_far_ends, so_far_more, so_far_starts}
use Rattle.fold_code.proofs.firsts.firsts_of.Goals as goal

pub loop-at-init : goal.loop-at-init
loop-at-init g c = so_far_starts g.K.PartialEq.eq c.args.keys.now c.new-places.result c.in_ok-firsts.firsts.items (search rules) (search rules)

pub loop-at-preserved : goal.loop-at-preserved
loop-at-preserved g c =
    so_far_more g.met.K.Eq.laws c.args.keys.now c.loop-at.places _ c.loop-at.firsts.items c.push.new.self.items c.loop-at.at c.or_insert.result.now c.index-keys-at.result c.loop-at.invariant
    c.loop-at-test.true c.index-keys-at.is (search rules) (search rules) c.in_ok-push.ensures.items

pub returns : goal.returns
returns g c = so_far_ends g.met.K.Eq.laws c.args.keys.now c.loop-at.places c.loop-at.firsts.items c.loop-at.at c.loop-at.invariant c.loop-at-test.false
