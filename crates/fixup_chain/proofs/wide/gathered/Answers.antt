use Rattle.std.proofs.Common.{false, arith}
use Rattle.fixup_chain.specs.inner.Held.{imports_in}
use Rattle.fixup_chain.proofs.WideLemmas.{held_for_all, wide_goes_on}
use Rattle.fixup_chain.proofs.wide.gathered.Goals as goal

pub bounds-before-at : goal.bounds-before-at
bounds-before-at c =
    let size = held_for_all false c.args.fixups.now (imports_in false c.args.fixups.now) c.args.ranks.now c.args.before.now c.requires.numbers in omega (arith, size, c.loop-at-test.true)

pub loop-at-preserved : goal.loop-at-preserved
loop-at-preserved c =
    wide_goes_on c.args.fixups.now c.args.narrow.now c.args.ranks.now c.args.before.now c.loop-at.at _ c.loop-at.rows.keys _ c.loop-at.held.items _ _ c.row_of-row.result c.number_at.result c.in_ok-one.one
    c.requires.rows c.requires.numbers c.loop-at.invariant c.loop-at-test.true c.index-fixups-at.is c.number_at.ensures c.row_of-row.ensures c.in_ok-one.ensures.keys c.in_ok-one.ensures.place c.in_ok-one.ensures.other c.in_ok-push.ensures.items
