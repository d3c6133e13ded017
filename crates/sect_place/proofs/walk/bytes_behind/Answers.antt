use Rattle.std.proofs.Common.{ap, ◌∙◌}
use Rattle.sect_place.specs.Places.{islands_bytes}
use Rattle.sect_place.proofs.Laid.{behind_some, behind_none}
use Rattle.sect_place.proofs.walk.bytes_behind.Goals as goal

pub returns-in-Some-clause-exact : goal.returns-in-Some-clause-exact
returns-in-Some-clause-exact c =
    c.area_bytes.ensures.exact ∙ (ap (islands_bytes c.args.unit) c.len.ensures ∙ behind_some c.args.areas.now c.args.unit c.args.key.now c.in-Some.area.now c.in-Some.ensures)

pub returns-in-None-clause-exact : goal.returns-in-None-clause-exact
returns-in-None-clause-exact c = behind_none c.args.areas.now c.args.unit c.args.key.now c.in-None.ensures
