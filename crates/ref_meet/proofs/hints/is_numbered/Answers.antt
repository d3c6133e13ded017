use Rattle.std.proofs.Common.{◌≡◌, List, Some, length, refl, sym, ap, ◌∙◌}
use Rattle.std.specs.Prelude.{slice_get}
use Rattle.std.proofs.lemmas.Option.{slice_get_read}
use Rattle.mo_types.specs.declared.goal.Goal.{Goal}
use Rattle.slot_place.proofs.NumberLemmas.{numbered}
use Rattle.ref_meet.proofs.hints.is_numbered.Goals as goal

pub returns-in-Some-clause-number : goal.returns-in-Some-clause-number
returns-in-Some-clause-number c so =
    let here : slice_get c.as_slice.result.now c.args.number ≡ Some c.in-Some.other.now =
    slice_get_read c.as_slice.result.now (length c.as_slice.result.now) c.args.number c.in-Some.other.now refl c.in-Some.ensures.lookup.3.0 (c.in-Some.ensures.lookup.3.1 c.in-Some.other.now) in
    numbered c.args.goals.now c.args.goal.now c.args.number c.as_slice.ensures.rising
    (ap (λ (goals : List Goal). slice_get goals c.args.number) (sym c.as_slice.ensures.all) ∙ here ∙ ap Some (c.is_same.ensures.0 so))
