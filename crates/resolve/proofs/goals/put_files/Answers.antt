use Rattle.std.proofs.Common.{◌∙◌}
use Rattle.symbol_winners.proofs.NumberedLemmas.{as_many_lists, numbers_there}
use Rattle.resolve.specs.inner.Scoped.{names_of}
use Rattle.resolve.proofs.PoolLemmas.{listed_all, listed_more}
use Rattle.resolve.proofs.goals.put_files.Goals as goal

pub bounds-numbers-at : goal.bounds-numbers-at
bounds-numbers-at c = as_many_lists (names_of c.args.scope.now) c.args.scope.now.loaded.now.files c.as_slice-files.result.now c.args.numbers.now c.loop-at.at c.requires.numbers c.as_slice-files.ensures c.loop-at-test.true

pub put_symbols-requires-clause-numbers : goal.put_symbols-requires-clause-numbers
put_symbols-requires-clause-numbers c =
    numbers_there (names_of c.args.scope.now) c.args.scope.now.loaded.now.files c.as_slice-files.result.now c.args.numbers.now c.loop-at.at c.index-files-at.result c.as_slice.result.now c.index-numbers-at.result
    c.requires.numbers c.as_slice-files.ensures c.loop-at-test.true c.index-files-at.is (c.as_slice.ensures ∙ c.index-numbers-at.is)

pub loop-at-preserved : goal.loop-at-preserved
loop-at-preserved c =
    listed_more c.args.scope.now.loaded.now.files c.args.scope.now.libs.now c.args.scope.now.command.now c.args.pool.now.items c.loop-at.pool.items c.put_symbols.new.pool.items c.as_slice-files.result.now c.loop-at.at c.index-files-at.result c.index-files-at.result c.loop-at.places.items c.push.new.self.items c.in_ok-put_symbols.field-0
    c.loop-at.invariant c.loop-at-test.true c.index-files-at.is c.in_ok-put_symbols.ensures.goals c.in_ok-put_symbols.ensures.places c.in_ok-push.ensures.items

pub returns : goal.returns
returns c =
    listed_all c.args.scope.now.loaded.now.files c.args.scope.now.libs.now c.args.scope.now.command.now c.args.pool.now.items c.loop-at.pool.items c.as_slice-files.result.now c.loop-at.at c.loop-at.places.items c.from_vec.result
    c.loop-at.invariant c.loop-at-test.false c.as_slice-files.ensures c.from_vec.ensures
