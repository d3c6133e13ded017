use Rattle.std.proofs.Common.{◌≤◌, subst, sym, ◌∙◌, arith}
use Rattle.mo_types.specs.declared.out_section.OutSection.{OutSection}
use Rattle.sect_place.proofs.Narrow.{unit_starts, unit_stays, unit_goes_on, unit_ends}
use Rattle.sect_place.proofs.placing.area_unit.Goals as goal
use Rattle.sect_place.proofs.placing.area_unit.Goals.{then-is_in, else-is_in}

pub loop-section-init : goal.loop-section-init
loop-section-init c = record { so_far = unit_starts c.args.sections.now; least = omega arith; low = omega arith }

pub loop-section-preserved : goal.loop-section-preserved
loop-section-preserved c =
    let sections = c.args.sections.now in
    let low : c.section-item.result.align ≤ 14 = subst (λ (section : OutSection). section.align ≤ 14) (sym c.section-item.is) (c.requires c.loop-section.section-index c.section-item.result c.loop-section-test.true) in
    elim c.if-is_in.branch [
      | then-is_in w ↦ rw w.unit-is (record {
        so_far = unit_goes_on sections c.loop-section.section-index c.loop-section.unit w.larger-unit.result _ c.section-item.result c.loop-section.invariant.so_far c.loop-section-test.true c.section-item.is (sym c.is_in.ensures ∙ w.if-is_in.true) w.larger-unit.ensures;
        least = omega (arith, c.loop-section.invariant.least, w.larger-unit.ensures);
        low = omega (arith, c.loop-section.invariant.low, w.larger-unit.ensures, low);
      })
      | else-is_in w ↦ rw w.unit-is (record {
        so_far = unit_stays sections c.loop-section.section-index c.loop-section.unit _ c.section-item.result c.loop-section.invariant.so_far c.loop-section-test.true c.section-item.is (sym c.is_in.ensures ∙ w.if-is_in.false);
        least = c.loop-section.invariant.least;
        low = c.loop-section.invariant.low;
      })
    ]

pub returns-clause-exact : goal.returns-clause-exact
returns-clause-exact c = unit_ends c.args.sections.now c.loop-section.section-index c.loop-section.unit _ c.loop-section.invariant.so_far c.loop-section.invariant.least c.loop-section-test.false
