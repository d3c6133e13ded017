use Rattle.std.proofs.Common.{arith, ◌∙◌}
use Rattle.std.proofs.lemmas.Option.{slice_get_within}
use Rattle.symbol_winners.proofs.PlaceSteps.{numbered, symbol_numbered, symbol_past}
use Rattle.symbol_winners.proofs.name_index.NameIndex.numbered.Goals as goal

pub returns-then-number-len-clause-name : goal.returns-then-number-len-clause-name
returns-then-number-len-clause-name c = λ name at. c.at.ensures ∙ numbered c.args.self.now.names.now c.args.self.now.places.items c.args.number name c.len.ensures.numbering at

pub returns-then-number-len-clause-symbol : goal.returns-then-number-len-clause-symbol
returns-then-number-len-clause-symbol c = λ symbol external is.
    c.at.ensures ∙ symbol_numbered c.args.self.now.names.now c.args.self.now.places.items c.args.number symbol c.len.ensures.numbering is (rw (← c.len.ensures.value) c.if-number-len.true)

pub returns-else-number-len-clause-name : goal.returns-else-number-len-clause-name
returns-else-number-len-clause-name c = λ name at. absurd (omega (arith, c.if-number-len.false, c.len.ensures.value, slice_get_within c.args.self.now.names.now c.args.number name at))

pub returns-else-number-len-clause-symbol : goal.returns-else-number-len-clause-symbol
returns-else-number-len-clause-symbol c = λ symbol external is.
    symbol_past c.args.self.now.names.now c.args.self.now.places.items c.args.number symbol external is (rw (← c.len.ensures.value) c.if-number-len.false)
