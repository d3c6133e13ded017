use Rattle.std.proofs.Common.{sym, ap, refl, ◌∙◌}
use Rattle.std.specs.Option.{option_copied}
use Rattle.resolve.specs.Table.{goals_of}
use Rattle.ref_meet.proofs.OrderLemmas.{order_of}
use Rattle.ref_meet.proofs.RowLemmas.{goals_here}
use Rattle.ref_meet.proofs.ToldLemmas.{file_near, goals_near}
use Rattle.ref_meet.proofs.row.row_of.Goals as goal

pub next_spots-indices-requires : goal.next_spots-indices-requires
next_spots-indices-requires c =
    rw c.as_slice.ensures
    (order_of c.args.scene.now.loaded.now.files c.args.orders.now c.args.item.now.file c.in_ok-file.file.now c.in-Some.order.now c.requires.orders
    (sym c.get.ensures.value ∙ ap option_copied c.in_ok-file.was) (sym c.get-2.ensures.value ∙ ap option_copied c.in-Some.is))

pub returns-clause-row : goal.returns-clause-row
returns-clause-row c = record {
  file = c.in_ok-file.file.now;
  there = sym c.get.ensures.value ∙ ap option_copied c.in_ok-file.was;
  refs = refl;
  pooled = c.file.ensures.pool;
  goals = goals_here (goals_of c.args.scene.now.goals.now) c.args.item.now.file c.file.result c.file.ensures.goals;
  indices = c.next_spots-indices.ensures;
  descriptors = c.has_descriptors.ensures;
  near_goals = goals_near (goals_of c.args.scene.now.goals.now) c.args.item.now.file _ c.requires.sound.goals (goals_here (goals_of c.args.scene.now.goals.now) c.args.item.now.file c.file.result c.file.ensures.goals);
  near_refs = file_near c.args.scene.now.loaded.now.files c.args.item.now.file c.in_ok-file.file.now c.requires.sound.refs (sym c.get.ensures.value ∙ ap option_copied c.in_ok-file.was);
}
