use Rattle.std.proofs.Common.{sym, ◌∙◌, arith}
use Rattle.sect_place.specs.Places.{area_unit}
use Rattle.sect_place.specs.Shifts.{sections_in}
use Rattle.sect_place.proofs.Fitting.{unit_least}
use Rattle.sect_place.proofs.Shifting.{unit_passes, unit_grows, unit_done}
use Rattle.islands.proofs.planning.unit_in.Goals as goal
use Rattle.islands.proofs.planning.unit_in.Goals.{then-is_text, else-is_text}

pub loop-placed-init : goal.loop-placed-init
loop-placed-init c = let least = unit_least (sections_in c.args.sections.now) in record { so_far = omega (arith, least); least = omega arith }

pub loop-placed-preserved : goal.loop-placed-preserved
loop-placed-preserved c =
    elim c.if-is_text.branch [
      | then-is_text w ↦ rw w.unit-is (record {
        so_far = unit_grows c.args.sections.now c.loop-placed.placed-index c.loop-placed.unit w.larger-unit.result _ c.placed-item.result c.loop-placed.invariant.so_far c.loop-placed-test.true c.placed-item.is (sym c.is_text.ensures ∙ w.if-is_text.true) w.larger-unit.ensures;
        least = omega (arith, c.loop-placed.invariant.least, w.larger-unit.ensures);
      })
      | else-is_text w ↦ rw w.unit-is (record {
        so_far = unit_passes c.args.sections.now c.loop-placed.placed-index c.loop-placed.unit _ c.placed-item.result c.loop-placed.invariant.so_far c.loop-placed-test.true c.placed-item.is (sym c.is_text.ensures ∙ w.if-is_text.false);
        least = c.loop-placed.invariant.least;
      })
    ]

pub returns-then-unit-lt14-clause-exact : goal.returns-then-unit-lt14-clause-exact
returns-then-unit-lt14-clause-exact c =
    let is = unit_done c.args.sections.now c.loop-placed.placed-index c.loop-placed.unit (area_unit (sections_in c.args.sections.now)) c.loop-placed.invariant.so_far c.loop-placed.invariant.least c.loop-placed-test.false in
    omega (arith, is)
