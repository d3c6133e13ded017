use Rattle.std.proofs.Common.{arith, refl}
use Rattle.liveness.specs.Roots.{marked_root}
use Rattle.symbol_winners.proofs.PickLemmas.{pick_symbol, pick_symbols_end}
use Rattle.symbol_winners.proofs.NumberedLemmas.{as_many, number_there}
use Rattle.liveness.proofs.starting.with_marked.Goals as goal

pub overflow_cast-index : goal.overflow_cast-index
overflow_cast-index c = omega (arith, c.loop-index-test.true, as_many c.args.symbols.now.names c.args.file.now c.args.numbers.now c.requires.numbers, c.requires.whole.few_symbols)

pub marked_root-requires-clause-index : goal.marked_root-requires-clause-index
marked_root-requires-clause-index c = omega (arith, c.loop-index-test.true, as_many c.args.symbols.now.names c.args.file.now c.args.numbers.now c.requires.numbers)

pub marked_root-requires-clause-number : goal.marked_root-requires-clause-number
marked_root-requires-clause-number c = λ d. number_there c.args.symbols.now.names c.args.file.now c.args.numbers.now c.loop-index.index _ 0 d c.requires.numbers c.loop-index-test.true refl

pub loop-index-preserved : goal.loop-index-preserved
loop-index-preserved c = pick_symbol (marked_root c.args.symbols.now c.args.file.now) c.args.before.items c.loop-index.roots.items c.in_ok-roots.roots.items c.args.file.now.object.symbols c.loop-index.index c.marked_root.result c.loop-index.invariant (omega (arith, c.loop-index-test.true, as_many c.args.symbols.now.names c.args.file.now c.args.numbers.now c.requires.numbers)) c.marked_root.ensures c.in_ok-roots.ensures

pub returns : goal.returns
returns c = pick_symbols_end (marked_root c.args.symbols.now c.args.file.now) c.args.before.items c.loop-index.roots.items c.args.file.now.object.symbols c.loop-index.index c.loop-index.invariant (omega (arith, c.loop-index-test.false, as_many c.args.symbols.now.names c.args.file.now c.args.numbers.now c.requires.numbers))
