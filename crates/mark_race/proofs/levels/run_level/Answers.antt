use Rattle.mark_race.specs.Ends.{ends_of}
use Rattle.mark_race.proofs.Teams.{next_is, races_kept}
use Rattle.mark_race.proofs.levels.run_level.Goals as goal

pub union-marker-requires-clause-race : goal.union-marker-requires-clause-race
union-marker-requires-clause-race g c = races_kept c.args.course.now.race.now c.in_ok-team.team.items c.in_ok-team-2.team.items c.in_ok-team-2.ensures.races c.in_ok-team.ensures.team.races

pub returns : goal.returns
returns g c = next_is c.args.course.now.race.now (ends_of c.args.course.now.ends.now c.args.work.now) c.args.marker c.union-marker.result c.look.new.marker c.in_ok-team.team.items c.in_ok-team-2.team.items c.in_ok-team-2.gained.items c.in_ok-team.ensures.team c.in_ok-team-2.ensures c.union-marker.ensures c.look.ensures.same c.look.ensures.once c.look.ensures.within
