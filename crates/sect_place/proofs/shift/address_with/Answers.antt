use Rattle.std.proofs.Common.{List, subst}
use Rattle.sect_place.specs.inner.Around.{IsShiftAt}
use Rattle.sect_place.specs.declared.layout.PlacedSection.{PlacedSection}
use Rattle.sect_place.proofs.Shifted.{answers_at, nowhere}
use Rattle.sect_place.proofs.shift.address_with.Goals as goal

pub returns-in-None : goal.returns-in-None
returns-in-None c = λ kept sections slots islands sizes command ordered behind rising laid made.
    nowhere kept sections slots islands sizes command c.args.layout.now c.args.shifts.now (record { ordered = ordered; behind = behind; rising = rising; laid = laid; made = made }) c.args.atom c.in-None.ensures

pub returns-in-Some : goal.returns-in-Some
returns-in-Some c = λ kept sections slots islands sizes command ordered behind rising laid made.
    answers_at kept sections slots islands sizes command c.args.layout.now c.args.shifts.now (record { ordered = ordered; behind = behind; rising = rising; laid = laid; made = made }) c.args.atom c.in-Some.place c.bytes_to-bytes.result _ c.in-Some.ensures (subst (λ (placed : List PlacedSection). IsShiftAt placed c.args.shifts.now c.args.atom c.in-Some.place c.bytes_to-bytes.result) c.as_slice.ensures c.bytes_to-bytes.ensures) c.sum_to.ensures
