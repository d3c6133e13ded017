use Rattle.mark_core.proofs.SetLemmas.{found_has, in_order, stands_has}
use Rattle.unwind_link.proofs.kept.place_of.Goals as goal

pub find-requires : goal.find-requires
find-requires c = in_order c.args.keys.now c.requires

pub returns-then-is_at : goal.returns-then-is_at
returns-then-is_at c = stands_has c.args.keys.now c.args.key c.args.near (c.is_at.ensures c.if-is_at.true)

pub returns : goal.returns
returns c = found_has c.args.keys.now c.args.key c.find.result c.find.ensures
