use Rattle.name_offers.proofs.OfferLemmas.{IsOffering}
use Rattle.name_offers.proofs.offering.offer_file.Given as goal

abbrev pub invariant-loop-i : goal.invariant-loop-i
invariant-loop-i l = IsOffering l.names l.file l.i l.fn.racer l.racer
