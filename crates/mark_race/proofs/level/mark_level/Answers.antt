use Rattle.mark_race.specs.Ends.{ends_of}
use Rattle.mark_race.proofs.Gathers.{all_fit, level_is}
use Rattle.mark_race.proofs.Working.{level_marked}
use Rattle.std.proofs.Common.{length}
use Rattle.mark_race.proofs.level.mark_level.Goals as goal

pub fan-requires-clause-fits : goal.fan-requires-clause-fits
fan-requires-clause-fits g c κs _ k d low = (all_fit c.args.race.now c.args.markers.items c.in_ok-workers.workers.items c.in_ok-workers.ensures c.requires.race k d low, record { work_has_ends = c.requires.work; ends_are = c.requires.ends })

pub returns : goal.returns
returns g c =
    let ends = c.in_ok-workers-2.workers.items in
    let marked = level_marked c.args.race.now (length c.args.race.now.start) c.args.ends.now c.args.work.now c.in_ok-workers.workers.items ends c.in_ok-workers-2.field-0-1.items c.in_ok-workers-2.ensures.fanned in
    level_is (ends_of c.args.ends.now c.args.work.now) c.args.markers.items c.in_ok-markers.markers.items c.in_ok-workers.workers.items ends c.in_ok-markers.gained.items c.in_ok-workers.ensures marked c.in_ok-markers.ensures
