use Rattle.member_rounds.proofs.OfferedLemmas.{IsOffering}
use Rattle.member_rounds.proofs.offer_index.with_offers.Given as goal

abbrev pub invariant-loop-at : goal.invariant-loop-at
invariant-loop-at l = IsOffering l.fn.before l.files l.source.input l.offers l.at
