use Rattle.std.proofs.Common.{◌≡◌, sym, ◌∙◌, arith, add-zero}
use Rattle.tlv_plan.specs.Template.{aligned}
use Rattle.tlv_plan.proofs.Walk.{closing_starts, closing_skips, closing_goes_on, closing_room, closing_ends}
use Rattle.tlv_plan.proofs.room.end_of_sections.Goals as goal
use Rattle.tlv_plan.proofs.room.end_of_sections.Goals.{then-is_thread_local+in_ok-from+in_ok-at, else-is_thread_local}

pub loop-section-init : goal.loop-section-init
loop-section-init c = closing_starts c.args.kept.now c.args.sections.now

pub returns-in_err-from : goal.returns-in_err-from
returns-in_err-from c =
    let room = closing_room _ _ _ _ _ c.loop-section.invariant c.loop-section-test.true c.section-item.is (sym c.is_thread_local.ensures ∙ c.if-is_thread_local.true) in
    rw c.from_residual.ensures (λ within. c.in_err-from.ensures (omega (arith, room.0)))

pub returns-in_err-at : goal.returns-in_err-at
returns-in_err-at c =
    let room = closing_room _ _ _ _ _ c.loop-section.invariant c.loop-section-test.true c.section-item.is (sym c.is_thread_local.ensures ∙ c.if-is_thread_local.true) in
    let start : c.in_ok-from.from ≡ aligned c.section-item.result.align c.loop-section.at = c.in_ok-from.ensures.1 ∙ add-zero _ in
    let past = rw (start, c.as_slice.ensures) at c.in_err-at.ensures in
    rw c.from_residual-in_err-at.ensures (λ within. past (omega (arith, room.1)))

pub loop-section-preserved : goal.loop-section-preserved
loop-section-preserved c =
    elim c.if-is_thread_local.branch [
      | then-is_thread_local+in_ok-from+in_ok-at w ↦
          let start : w.in_ok-from.from ≡ aligned c.section-item.result.align c.loop-section.at = w.in_ok-from.ensures.1 ∙ add-zero _ in
          rw w.at-is (closing_goes_on _ _ _ _ w.in_ok-at.at _ c.loop-section.invariant c.loop-section-test.true c.section-item.is (sym c.is_thread_local.ensures ∙ w.if-is_thread_local.true) (rw (start, w.as_slice.ensures) at w.in_ok-at.ensures.1) (omega (arith, w.in_ok-at.ensures.0, w.in_ok-at.ensures.1)))
      | else-is_thread_local w ↦ rw w.at-is (closing_skips _ _ _ _ _ c.loop-section.invariant c.loop-section-test.true c.section-item.is (sym c.is_thread_local.ensures ∙ w.if-is_thread_local.false))
    ]

pub returns : goal.returns
returns c = closing_ends _ _ _ _ c.loop-section.invariant c.loop-section-test.false
