use Rattle.std.proofs.Common.{sym, ap, ◌∙◌, Some}
use Rattle.std.specs.Option.{option_map}
use Rattle.symbol_winners.specs.inner.Words.{offer_by}
use Rattle.symbol_winners.specs.inner.Numbers.{IsNumbered}
use Rattle.symbol_winners.proofs.NumberLemmas.{numbered_at}
use Rattle.symbol_winners.proofs.WordsLemmas.{offer_made, offers_add, offers_end, offers_pass}
use Rattle.symbol_winners.proofs.words.offers_of.Goals as goal
use Rattle.symbol_winners.proofs.words.offers_of.Goals.{in-Some+in_ok-push, in_default}

pub loop-candidate-preserved : goal.loop-candidate-preserved
loop-candidate-preserved c = elim c.match-id_of_number.branch [
  | in-Some+in_ok-push w ↦
      rw w.offers-is
      (offers_add c.args.names.now c.args.found.now c.loop-candidate.candidate-index c.candidate-item.result c.candidate-item.result c.loop-candidate.offers.items w.push.new.self.items w.offer.result c.loop-candidate-test.true c.candidate-item.is c.loop-candidate.invariant
      (offer_made c.args.names.now c.candidate-item.result c.id_of_number.result (let one : IsNumbered c.args.names.now c.candidate-item.result = numbered_at c.args.names.now c.args.found.now c.loop-candidate.candidate-index c.candidate-item.result c.candidate-item.result c.requires.numbered c.loop-candidate-test.true c.candidate-item.is in c.id_of_number.ensures.meaning c.candidate-item.result.symbol.now one.external one.number_is) ∙ ap (option_map (offer_by c.candidate-item.result)) w.in-Some.is ∙ ap Some (sym w.offer.ensures)) w.in_ok-push.ensures.items)
  | in_default w ↦
      rw w.offers-is
      (offers_pass c.args.names.now c.args.found.now c.loop-candidate.candidate-index c.candidate-item.result c.candidate-item.result c.loop-candidate.offers.items c.loop-candidate-test.true c.candidate-item.is c.loop-candidate.invariant
      (offer_made c.args.names.now c.candidate-item.result c.id_of_number.result (let one : IsNumbered c.args.names.now c.candidate-item.result = numbered_at c.args.names.now c.args.found.now c.loop-candidate.candidate-index c.candidate-item.result c.candidate-item.result c.requires.numbered c.loop-candidate-test.true c.candidate-item.is in c.id_of_number.ensures.meaning c.candidate-item.result.symbol.now one.external one.number_is) ∙ ap (option_map (offer_by c.candidate-item.result)) w.in_default.is))
]

pub returns : goal.returns
returns c = offers_end c.args.names.now c.args.found.now c.loop-candidate.candidate-index c.loop-candidate.offers.items c.loop-candidate-test.false c.loop-candidate.invariant
