use Rattle.mo_cmd.proofs.ItemLemmas.{last_some}
use Rattle.mo_cmd.proofs.build.last_value.Goals as goal

pub returns-in-Some : goal.returns-in-Some
returns-in-Some c = last_some c.args.words.now c.args.sorted.now c.args.field c.in-Some.part c.args.number _ c.in-Some.ensures c.nth_value.ensures
