use Rattle.std.proofs.Common.{◌≡◌, take}
use Rattle.std.specs.List.{filter_map}
use Rattle.symbol_winners.specs.inner.Words.{offer_of}
use Rattle.symbol_winners.proofs.words.offers_of.Given as goal

abbrev pub invariant-loop-candidate : goal.invariant-loop-candidate
invariant-loop-candidate l = l.offers.items ≡ filter_map (offer_of l.names) (take l.candidate-index l.found)
