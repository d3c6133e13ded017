use Rattle.std.proofs.Common.{◌≡◌, ℕ, ◌+◌, ◌^◌, ◌<◌, List, length, refl, ap, subst, ◌∙◌, arith, length-append}
use Rattle.sect_place.specs.Places.{islands_bytes}
use Rattle.sect_place.specs.declared.shift.Step.{Step}
use Rattle.sect_place.proofs.Shifting.{step_goes, steps_done}
use Rattle.sect_place.proofs.shift.add_steps.Goals as goal

pub loop-area-preserved : goal.loop-area-preserved
loop-area-preserved c =
    let few : length c.push.new.self.items < 2 ^ 58 = subst (λ (ss : List Step). length ss < 2 ^ 58) c.as_slice.ensures.value c.steps_are_few.ensures in
    let longer : length c.push.new.self.items ≡ length c.loop-area.steps.items + 1 = ap length c.in_ok-push.ensures.items ∙ length-append c.loop-area.steps.items _ in
    record {
      stepping = step_goes c.args.unit c.loop-area.bytes _ c.area_bytes-bytes.result _ c.args.areas.now c.loop-area.area-index c.area-item.result c.loop-area.steps.items _ _ c.loop-area.invariant.stepping c.loop-area-test.true c.area-item.is c.in_ok-push.ensures.items (c.area_bytes-bytes.ensures.exact ∙ ap (λ (n : ℕ). islands_bytes c.args.unit n) c.len.ensures) refl;
      small = omega (arith, c.loop-area.invariant.small, c.area_bytes-bytes.ensures.small, longer);
      low = omega (arith, c.loop-area.invariant.small, c.area_bytes-bytes.ensures.small, longer, few);
    }

pub returns-clause-steps : goal.returns-clause-steps
returns-clause-steps c = (steps_done c.args.unit c.loop-area.bytes _ c.args.areas.now c.loop-area.area-index c.loop-area.steps.items _ c.loop-area.invariant.stepping c.loop-area-test.false).0

pub returns-clause-all : goal.returns-clause-all
returns-clause-all c = (steps_done c.args.unit c.loop-area.bytes _ c.args.areas.now c.loop-area.area-index c.loop-area.steps.items _ c.loop-area.invariant.stepping c.loop-area-test.false).1
