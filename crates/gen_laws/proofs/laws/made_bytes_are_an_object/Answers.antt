use Rattle.gen_laws.proofs.Law.{calls_name, made_is_object, made_is_read}
use Rattle.gen_laws.proofs.laws.made_bytes_are_an_object.Goals as goal

pub returns-clause-object : goal.returns-clause-object
returns-clause-object c = made_is_object c.args.made c.requires

pub returns-clause-read : goal.returns-clause-read
returns-clause-read c = made_is_read c.args.made c.requires

pub returns-clause-names : goal.returns-clause-names
returns-clause-names c = λ r low. calls_name c.args.made r c.requires low
