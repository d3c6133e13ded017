use Rattle.std.proofs.Common.{◌≡◌, ◌<◌, [], true, get_or, min, position, Some, length, ap, sym, ◌∙◌, arith}
use Rattle.std.specs.Str.{bytes_eq}
use Rattle.std.proofs.lemmas.List.Quantifiers.{position-Some}
use Rattle.mo_types.specs.Candidates.{is_candidate}
use Rattle.name_offers.proofs.OfferLemmas.{candidate_external}
use Rattle.name_offers.proofs.PlainLemmas.{offered, unknown}
use Rattle.name_offers.proofs.plain.offer_symbol.Goals as goal

pub returns-in-Some : goal.returns-in-Some
returns-in-Some c =
    let is : is_candidate c.args.file.now.object.sections c.args.symbol.now ≡ true = sym c.is_candidate.ensures ∙ c.if-not-is_candidate.false in
    let there : position (bytes_eq c.args.symbol.now.name) c.args.names.now ≡ Some c.in-Some.id = sym (c.id_of_number.ensures.meaning c.args.symbol.now (candidate_external c.args.file.now c.args.symbol.now is) c.requires.number) ∙ c.in-Some.is in
    let low : c.in-Some.id < length c.args.names.now = (position-Some (bytes_eq c.args.symbol.now.name) c.args.names.now c.in-Some.id [] there).0 in
    offered c.args.names.now c.args.file.now c.args.index c.in-Some.id c.min.result c.args.symbol.now c.args.words.now is there (omega (arith, low, c.requires.words)) (c.min.ensures ∙ ap (min (get_or c.args.words.now c.in-Some.id 0)) c.word_of.ensures)

pub returns-in_default : goal.returns-in_default
returns-in_default c =
    let is : is_candidate c.args.file.now.object.sections c.args.symbol.now ≡ true = sym c.is_candidate.ensures ∙ c.if-not-is_candidate.false in
    unknown c.args.names.now c.args.file.now c.args.index c.args.symbol.now c.args.words.now (sym (c.id_of_number.ensures.meaning c.args.symbol.now (candidate_external c.args.file.now c.args.symbol.now is) c.requires.number) ∙ c.in_default.is)
