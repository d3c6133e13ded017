use Rattle.mo_obj.proofs.FactsLaws.{object_is}
use Rattle.mo_obj.proofs.laws.objects_are_read.Goals as goal

pub returns-clause-read : goal.returns-clause-read
returns-clause-read c object is = object_is c.args.bytes.now object is
