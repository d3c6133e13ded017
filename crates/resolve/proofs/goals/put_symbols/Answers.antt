use Rattle.std.proofs.Common.{arith, refl}
use Rattle.symbol_winners.proofs.NumberedLemmas.{as_many, number_there}
use Rattle.resolve.specs.inner.Scoped.{names_of}
use Rattle.resolve.proofs.PoolLemmas.{put_all, put_more}
use Rattle.resolve.proofs.goals.put_symbols.Goals as goal

pub overflow_cast-index : goal.overflow_cast-index
overflow_cast-index c = omega (arith, c.loop-index-test.true, as_many (names_of c.args.scope.now) c.args.file.now c.args.numbers.now c.requires.numbers, c.requires.whole.few_symbols)

pub put_symbol-requires-clause-index : goal.put_symbol-requires-clause-index
put_symbol-requires-clause-index c = omega (arith, c.loop-index-test.true, as_many (names_of c.args.scope.now) c.args.file.now c.args.numbers.now c.requires.numbers)

pub put_symbol-requires-clause-number : goal.put_symbol-requires-clause-number
put_symbol-requires-clause-number c = λ d. number_there (names_of c.args.scope.now) c.args.file.now c.args.numbers.now c.loop-index.index _ 0 d c.requires.numbers c.loop-index-test.true refl

pub loop-index-preserved : goal.loop-index-preserved
loop-index-preserved c =
    put_more c.args.scope.now.loaded.now.files c.args.scope.now.libs.now c.args.scope.now.command.now c.args.file.now c.args.pool.now.items c.loop-index.pool.items c.put_symbol.new.pool.items c.loop-index.index c.loop-index.places.items c.push.new.self.items c.in_ok-put_symbol.field-0
    c.loop-index.invariant (omega (arith, c.loop-index-test.true, as_many (names_of c.args.scope.now) c.args.file.now c.args.numbers.now c.requires.numbers)) c.in_ok-put_symbol.ensures.goals c.in_ok-put_symbol.ensures.place c.in_ok-push.ensures.items

pub returns-clause-places : goal.returns-clause-places
returns-clause-places c =
    put_all c.args.scope.now.loaded.now.files c.args.scope.now.libs.now c.args.scope.now.command.now c.args.file.now c.args.pool.now.items c.loop-index.pool.items c.loop-index.index c.loop-index.places.items c.from_vec.result
    c.loop-index.invariant (omega (arith, c.loop-index-test.false, as_many (names_of c.args.scope.now) c.args.file.now c.args.numbers.now c.requires.numbers)) c.from_vec.ensures
