use Rattle.std.proofs.Common.{◌∙◌}
use Rattle.mark_core.proofs.SetLemmas.{found_has, in_order}
use Rattle.mark_core.proofs.lookup.is_hinted.Goals as goal

pub find-requires : goal.find-requires
find-requires c = in_order c.args.keys.now c.requires

pub returns : goal.returns
returns c = c.is_some.ensures ∙ found_has c.args.keys.now c.args.key.now c.find.result c.find.ensures
