use Rattle.std.proofs.Common.{sym, ◌∙◌, arith}
use Rattle.sect_place.proofs.Shifting.{end_passes, end_goes, end_done}
use Rattle.sect_place.proofs.shift.text_end.Goals as goal
use Rattle.sect_place.proofs.shift.text_end.Goals.{then-is_in, else-is_in}

pub loop-placed-preserved : goal.loop-placed-preserved
loop-placed-preserved c =
    elim c.if-is_in.branch [
      | then-is_in w ↦ record {
        so_far = end_goes c.args.sections.now c.loop-placed.placed-index c.loop-placed.end c.if-is_in.end _ c.placed-item.result c.loop-placed.invariant.so_far c.loop-placed-test.true c.placed-item.is (sym c.is_in.ensures ∙ w.if-is_in.true) (omega (arith, w.end-is, w.widened.ensures.exact, w.widened-then-is_in.ensures.exact));
        small = omega (arith, w.end-is, w.widened.ensures.small, w.widened-then-is_in.ensures.small);
      }
      | else-is_in w ↦ rw w.end-is (record {
        so_far = end_passes c.args.sections.now c.loop-placed.placed-index c.loop-placed.end _ c.placed-item.result c.loop-placed.invariant.so_far c.loop-placed-test.true c.placed-item.is (sym c.is_in.ensures ∙ w.if-is_in.false);
        small = c.loop-placed.invariant.small;
      })
    ]

pub returns-clause-exact : goal.returns-clause-exact
returns-clause-exact c = end_done c.args.sections.now c.loop-placed.placed-index c.loop-placed.end _ c.loop-placed.invariant.so_far c.loop-placed-test.false
