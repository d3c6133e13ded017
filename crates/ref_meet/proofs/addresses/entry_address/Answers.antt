use Rattle.std.proofs.Common.{◌<◌, ◌^◌, ◌∙◌, ap, arith}
use Rattle.std.specs.Prelude.{Option}
use Rattle.slot_plan.specs.declared.need.Way.{Way}
use Rattle.ref_meet.specs.Addresses.{address_by}
use Rattle.ref_meet.specs.Ready.{scene_of}
use Rattle.ref_meet.proofs.ToldLemmas.{exact_by}
use Rattle.ref_meet.proofs.addresses.entry_address.Goals as goal

pub returns : goal.returns
returns c =
    let small : c.args.scene.now.base < 2 ^ 64 = omega arith in
    c.told_by.ensures
    ∙ exact_by (scene_of c.args.scene.now) c.entry_way.result c.args.goal.now small c.requires.sound c.requires.near
    ∙ ap (λ (way : Option Way). address_by (scene_of c.args.scene.now) way c.args.goal.now) c.entry_way.ensures
