use Rattle.std.proofs.Common.{refl, ap, inl, ◌∙◌}
use Rattle.sect_place.specs.Shifts.{ShiftTable}
use Rattle.sect_place.proofs.Shifting.{read_before}
use Rattle.sect_place.proofs.shift.bytes_by_lists.Goals as goal

pub returns-then-lists : goal.returns-then-lists
returns-then-lists c = λ placed steps. inl (
  c.if-lists.ensures.found refl,
  read_before c.args.shifts.now c.as_slice.result.now c.shifts.inside.all c.bytes_before.result c.args.atom.now (c.as_slice.ensures.value ∙ ap (λ (t : ShiftTable). t.steps) c.shifts.view_is) (ap (λ (t : ShiftTable). t.all) c.shifts.view_is) c.bytes_before.ensures steps,
)
