use Rattle.std.proofs.Common.{◌<◌, [], arith, length, refl}
use Rattle.liveness.specs.Roots.{external_atom, external_atoms, winning_atom, winning_atoms}
use Rattle.symbol_winners.proofs.PickLemmas.{pick_symbol, pick_symbols_end}
use Rattle.symbol_winners.proofs.NumberedLemmas.{as_many, number_there}
use Rattle.liveness.proofs.standing.standing_atoms.Goals as goal

pub overflow_cast-index : goal.overflow_cast-index
overflow_cast-index c = omega (arith, c.loop-at-test.true, as_many c.args.symbols.now.names c.args.file.now c.args.numbers.now c.requires.numbers, c.requires.whole.few_symbols)

pub external_atom-atom-requires-clause-index : goal.external_atom-atom-requires-clause-index
external_atom-atom-requires-clause-index c = omega (arith, c.loop-at-test.true, as_many c.args.symbols.now.names c.args.file.now c.args.numbers.now c.requires.numbers)

pub won-requires-clause-index : goal.won-requires-clause-index
won-requires-clause-index c = omega (arith, c.loop-at-test.true, as_many c.args.symbols.now.names c.args.file.now c.args.numbers.now c.requires.numbers)

pub won-requires-clause-number : goal.won-requires-clause-number
won-requires-clause-number c = λ d. number_there c.args.symbols.now.names c.args.file.now c.args.numbers.now c.loop-at.at _ 0 d c.requires.numbers c.loop-at-test.true refl

pub loop-at-preserved : goal.loop-at-preserved
loop-at-preserved c =
    let under : c.loop-at.at < length c.args.file.now.object.symbols = omega (arith, c.loop-at-test.true, as_many c.args.symbols.now.names c.args.file.now c.args.numbers.now c.requires.numbers) in (
      pick_symbol (external_atom c.args.file.now) [] c.loop-at.external.items c.in_ok-external.external.items c.args.file.now.object.symbols c.loop-at.at c.external_atom-atom.result c.loop-at.invariant.0 under c.external_atom-atom.ensures c.in_ok-external.ensures,
      pick_symbol (winning_atom c.args.symbols.now.winners c.args.file.now) [] c.loop-at.winning.items c.in_ok-winning.winning.items c.args.file.now.object.symbols c.loop-at.at c.won.result c.loop-at.invariant.1 under c.won.ensures c.in_ok-winning.ensures,
    )

pub returns-clause-external : goal.returns-clause-external
unfolding external_atoms
returns-clause-external c = pick_symbols_end (external_atom c.args.file.now) [] c.loop-at.external.items c.args.file.now.object.symbols c.loop-at.at c.loop-at.invariant.0 (omega (arith, c.loop-at-test.false, as_many c.args.symbols.now.names c.args.file.now c.args.numbers.now c.requires.numbers))

pub returns-clause-winning : goal.returns-clause-winning
unfolding winning_atoms
returns-clause-winning c = pick_symbols_end (winning_atom c.args.symbols.now.winners c.args.file.now) [] c.loop-at.winning.items c.args.file.now.object.symbols c.loop-at.at c.loop-at.invariant.1 (omega (arith, c.loop-at-test.false, as_many c.args.symbols.now.names c.args.file.now c.args.numbers.now c.requires.numbers))
