use Rattle.std.proofs.Common.{ap, sym, ◌∙◌}
use Rattle.sect_place.specs.Shifts.{ShiftTable}
use Rattle.sect_place.proofs.Shifting.{read_before}
use Rattle.sect_place.proofs.shift.bytes_in.Goals as goal

pub returns-then-is_code : goal.returns-then-is_code
returns-then-is_code c = λ steps.
    let code = sym c.is_code.ensures ∙ c.if-is_code.true in
    rw code (read_before c.args.shifts.now c.as_slice.result.now c.shifts.inside.all c.bytes_before.result c.args.atom.now (c.as_slice.ensures.value ∙ ap (λ (t : ShiftTable). t.steps) c.shifts.view_is) (ap (λ (t : ShiftTable). t.all) c.shifts.view_is) c.bytes_before.ensures steps)
