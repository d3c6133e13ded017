use Rattle.islands.proofs.Told.{goal_told, stub_told}
use Rattle.islands.proofs.quick.place_in_text.Goals as goal

pub returns-in-Some-clause-place : goal.returns-in-Some-clause-place
returns-in-Some-clause-place c = stub_told c.args.layout.now c.args.target.now c.in-Some.number c.args.ground.now.stubs c.stub_place.result c.in-Some.is c.requires.ground.stubs c.stub_place.ensures.exact

pub returns-in-None-clause-place : goal.returns-in-None-clause-place
returns-in-None-clause-place c = goal_told c.args.layout.now c.args.target.now c.goal_place.result c.in-None.is c.goal_place.ensures.place
