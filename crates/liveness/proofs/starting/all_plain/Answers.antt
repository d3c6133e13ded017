use Rattle.std.proofs.Common.{[], ◌∙◌, refl}
use Rattle.liveness.specs.Roots.{plain_roots}
use Rattle.liveness.proofs.GrowLemmas.{grow_end, grow_item, whole_at}
use Rattle.symbol_winners.proofs.NumberedLemmas.{as_many_lists, numbers_there}
use Rattle.liveness.proofs.starting.all_plain.Goals as goal

pub bounds-numbers-at : goal.bounds-numbers-at
bounds-numbers-at c = as_many_lists c.args.symbols.now.names c.args.files.now c.args.files.now c.args.numbers.now c.loop-at.at c.requires.numbers refl c.loop-at-test.true

pub with_plain_roots-requires-clause-whole : goal.with_plain_roots-requires-clause-whole
with_plain_roots-requires-clause-whole c = whole_at c.args.files.now c.loop-at.at c.index-files-at.result c.requires.whole c.loop-at-test.true c.index-files-at.is

pub with_plain_roots-requires-clause-numbers : goal.with_plain_roots-requires-clause-numbers
with_plain_roots-requires-clause-numbers c =
    numbers_there c.args.symbols.now.names c.args.files.now c.args.files.now c.args.numbers.now c.loop-at.at c.index-files-at.result c.as_slice.result.now c.index-numbers-at.result
    c.requires.numbers refl c.loop-at-test.true c.index-files-at.is (c.as_slice.ensures ∙ c.index-numbers-at.is)

pub loop-at-preserved : goal.loop-at-preserved
loop-at-preserved c = grow_item (plain_roots c.args.symbols.now) [] c.loop-at.roots.items c.in_ok-roots.roots.items c.args.files.now c.loop-at.at c.index-files-at.result c.index-files-at.result c.loop-at.invariant c.loop-at-test.true c.index-files-at.is c.in_ok-roots.ensures

pub returns : goal.returns
returns c = grow_end (plain_roots c.args.symbols.now) [] c.loop-at.roots.items c.args.files.now c.loop-at.at c.loop-at.invariant c.loop-at-test.false
