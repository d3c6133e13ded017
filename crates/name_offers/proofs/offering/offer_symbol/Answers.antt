use Rattle.std.proofs.Common.{◌≡◌, true, position, Some, [], ◌∷◌, ◌++◌, sym, ◌∙◌}
use Rattle.std.specs.Str.{bytes_eq}
use Rattle.mo_types.specs.Candidates.{is_candidate}
use Rattle.name_offers.proofs.OfferLemmas.{candidate_external, symbol_offered, symbol_unknown}
use Rattle.name_offers.proofs.offering.offer_symbol.Goals as goal

pub returns-in-Some : goal.returns-in-Some
returns-in-Some c =
    let is : is_candidate c.args.file.now.object.sections c.args.symbol.now ≡ true = sym c.is_candidate.ensures ∙ c.if-not-is_candidate.false in
    let there : position (bytes_eq c.args.symbol.now.name) c.args.names.now ≡ Some c.in-Some.id = sym (c.id_of_number.ensures.meaning c.args.symbol.now (candidate_external c.args.file.now c.args.symbol.now is) c.requires.number) ∙ c.in-Some.is in
    symbol_offered c.args.names.now c.args.file.now c.args.index c.in-Some.id c.word_of.result c.args.symbol.now c.args.racer.now c.offer.new.racer (c.args.racer.now.known ++ (c.in-Some.id, c.offer.result) ∷ (c.in-Some.id, c.word_of.result) ∷ []) is there c.word_of.ensures c.offer.ensures.racer

pub returns-in_default : goal.returns-in_default
returns-in_default c =
    let is : is_candidate c.args.file.now.object.sections c.args.symbol.now ≡ true = sym c.is_candidate.ensures ∙ c.if-not-is_candidate.false in
    symbol_unknown c.args.names.now c.args.file.now c.args.index c.args.symbol.now c.args.racer.now (sym (c.id_of_number.ensures.meaning c.args.symbol.now (candidate_external c.args.file.now c.args.symbol.now is) c.requires.number) ∙ c.in_default.is)
