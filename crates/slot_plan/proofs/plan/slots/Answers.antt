use Rattle.std.proofs.Common.{◌≡◌, List, subst}
use Rattle.std.specs.Borrow.{Bor}
use Rattle.slot_plan.specs.declared.need.Need.{Need}
use Rattle.slot_plan.specs.Slots.{in_got, in_stubs, in_tlv}
use Rattle.slot_plan.specs.inner.Held.{HasTheSame, held_needs}
use Rattle.slot_plan.proofs.Ordered.{slots_of_same}
use Rattle.slot_plan.proofs.plan.slots.Goals as goal

same_few : (needs read : List Need) (few : List (Bor Need)) (read_few : List (Bor Need)) → read ≡ needs → read_few ≡ few → HasTheSame read (held_needs few) → HasTheSame needs (held_needs read_few)
same_few needs read few read_few e f h = rw f (subst (λ (ns : List Need). HasTheSame ns (held_needs few)) e h)

pub returns-clause-got : goal.returns-clause-got
returns-clause-got c = slots_of_same in_got c.args.needs.now _ c.in_ok-slots_of.field-0
    (same_few c.args.needs.now c.as_slice.result.now c.in_ok-needs.needs.items c.as_slice-needs.result.now c.as_slice.ensures c.as_slice-needs.ensures.value c.in_ok-needs.ensures.same)
    c.in_ok-slots_of.ensures

pub returns-clause-stubs : goal.returns-clause-stubs
returns-clause-stubs c = slots_of_same in_stubs c.args.needs.now _ c.in_ok-slots_of-2.field-0
    (same_few c.args.needs.now c.as_slice.result.now c.in_ok-needs.needs.items c.as_slice-needs.result.now c.as_slice.ensures c.as_slice-needs.ensures.value c.in_ok-needs.ensures.same)
    c.in_ok-slots_of-2.ensures

pub returns-clause-tlv : goal.returns-clause-tlv
returns-clause-tlv c = slots_of_same in_tlv c.args.needs.now _ c.in_ok-slots_of-3.field-0
    (same_few c.args.needs.now c.as_slice.result.now c.in_ok-needs.needs.items c.as_slice-needs.result.now c.as_slice.ensures c.as_slice-needs.ensures.value c.in_ok-needs.ensures.same)
    c.in_ok-slots_of-3.ensures
