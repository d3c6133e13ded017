use Rattle.std.proofs.Common.{◌++◌, List, ap, ◌∙◌}
use Rattle.slot_needs.specs.Needs.{needs_of}
use Rattle.slot_plan.specs.declared.need.Need.{Need}
use Rattle.link_files.proofs.BoundLemmas.{served_all}
use Rattle.link_files.proofs.bound.needed_slots.Goals as goal

pub returns : goal.returns
returns c =
    served_all (needs_of c.args.referring.now) c.in_ok-others.others c.in_ok-all.all c.args.listed.now c.slots.result c.in_ok-others.ensures
    (c.in_ok-all.ensures ∙ ap (λ (ns : List Need). c.in_ok-others.others ++ ns) c.in_ok-handlers.ensures) c.slots.ensures.got c.slots.ensures.stubs c.slots.ensures.tlv
