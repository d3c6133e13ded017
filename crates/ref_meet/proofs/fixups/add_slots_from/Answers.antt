use Rattle.std.proofs.Common.{[], ◌∷◌, ◌++◌, ap, ◌∙◌}
use Rattle.mo_types.specs.declared.goal.Goal.{Goal}
use Rattle.ref_meet.specs.Pointers.{slot_fixup}
use Rattle.ref_meet.proofs.GatherLemmas.{number_more}
use Rattle.ref_meet.proofs.fixups.add_slots_from.Goals as goal

pub loop-number-preserved : goal.loop-number-preserved
loop-number-preserved c =
    number_more (slot_fixup c.args.start) c.args.out.now.items c.loop-number.out.items c.push.new.self.items c.args.goals.now c.loop-number.number c.index-goals-number.result c.loop-number.invariant c.loop-number-test.true c.index-goals-number.is
    (c.in_ok-push.ensures.items ∙ ap (λ (g : Goal). c.loop-number.out.items ++ slot_fixup c.args.start (c.loop-number.number, g) ∷ []) c.in_ok-clone.ensures.cases)
