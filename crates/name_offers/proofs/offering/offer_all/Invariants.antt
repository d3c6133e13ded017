use Rattle.std.proofs.Common.{◌*◌, ◌^◌}
use Rattle.name_offers.proofs.JobLemmas.{IsOfferedTo}
use Rattle.name_offers.proofs.offering.offer_all.Given as goal

abbrev pub invariant-loop-run : goal.invariant-loop-run
invariant-loop-run g l = IsOfferedTo l.race l.numbered.names l.files (l.run * 2 ^ 30) l.fn.racers.items l.racers.items
