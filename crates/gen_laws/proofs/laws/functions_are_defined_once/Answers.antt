use Rattle.gen_laws.proofs.Whole.{its_object, its_place}
use Rattle.gen_laws.proofs.laws.functions_are_defined_once.Goals as goal

pub returns-clause-object : goal.returns-clause-object
returns-clause-object c = λ i place h. its_object c.args.made i place c.requires h

pub returns-clause-place : goal.returns-clause-place
returns-clause-place c = λ i place h. its_place c.args.made i place c.requires h
