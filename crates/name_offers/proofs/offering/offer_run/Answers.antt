use Rattle.name_offers.proofs.JobLemmas.{run_offered}
use Rattle.name_offers.proofs.offering.offer_run.Goals as goal

pub returns-clause-offered : goal.returns-clause-offered
returns-clause-offered g c = run_offered c.args.offering.now.race.now c.args.offering.now.names.now c.args.offering.now.numbers.now c.args.offering.now.files.now c.args.racers.items c.in_ok-racers.racers.items c.in_ok-racers.field-0-1.items c.in_ok-racers.ensures.fanned
