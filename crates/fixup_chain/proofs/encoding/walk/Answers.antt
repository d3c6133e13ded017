use Rattle.std.proofs.Common.{arith}
use Rattle.fixup_chain.specs.inner.Held.{imports_in}
use Rattle.fixup_chain.proofs.WalkLemmas.{walk_goes_on}
use Rattle.fixup_chain.proofs.WideLemmas.{held_for_all, number_here, number_small, offset_of_one}
use Rattle.fixup_chain.proofs.encoding.walk.Goals as goal

pub bounds-held-at : goal.bounds-held-at
bounds-held-at c =
    let size = held_for_all c.args.wide c.args.fixups.now (imports_in c.args.wide c.args.fixups.now) c.args.ranks.now c.args.held.now c.requires.numbers in omega (arith, size, c.loop-at-test.true)

pub overflow_cast-number : goal.overflow_cast-number
overflow_cast-number c =
    let imports = imports_in c.args.wide c.args.fixups.now in
    let has = number_here c.args.wide c.args.fixups.now imports c.args.ranks.now c.args.held.now c.loop-at.at _ c.number_at-number.result c.index-fixups-at.result c.requires.numbers c.loop-at-test.true c.index-fixups-at.is c.number_at-number.ensures in
    let small = number_small c.args.wide imports c.index-fixups-at.result c.number_at-number.result has c.requires.few in
    omega (arith, small)

pub word_by-requires-clause-number : goal.word_by-requires-clause-number
word_by-requires-clause-number c =
    let imports = imports_in c.args.wide c.args.fixups.now in
    number_small c.args.wide imports c.index-fixups-at.result c.number_at-number.result
    (number_here c.args.wide c.args.fixups.now imports c.args.ranks.now c.args.held.now c.loop-at.at _ c.number_at-number.result c.index-fixups-at.result c.requires.numbers c.loop-at-test.true c.index-fixups-at.is c.number_at-number.ensures)
    c.requires.few

pub loop-at-preserved : goal.loop-at-preserved
loop-at-preserved c =
    let imports = imports_in c.args.wide c.args.fixups.now in
    walk_goes_on c.args.layout.now c.args.wide imports c.args.fixups.now c.loop-at.at c.loop-at.words.items c.push.new.self.items c.loop-at.first c.first_with-first.result
    c.index-fixups-at.result c.steps_to_next-next.result c.word_by.result
    c.loop-at.invariant c.loop-at-test.true c.index-fixups-at.is c.steps_to_next-next.ensures.value
    (c.word_by.ensures c.args.layout.now imports
    (number_here c.args.wide c.args.fixups.now imports c.args.ranks.now c.args.held.now c.loop-at.at _ c.number_at-number.result c.index-fixups-at.result c.requires.numbers c.loop-at-test.true c.index-fixups-at.is c.number_at-number.ensures)
    (offset_of_one c.args.layout.now c.args.fixups.now c.args.held.now c.loop-at.at _ c.index-fixups-at.result c.requires.offsets c.loop-at-test.true c.index-fixups-at.is))
    c.first_with-first.ensures c.in_ok-push.ensures.items
