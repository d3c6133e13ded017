use Rattle.std.proofs.Common.{rules, arith}
use Rattle.mo_ar.proofs.HashLemmas.{marks_set, marks_start}
use Rattle.mo_ar.proofs.hash.marks_of.Goals as goal

pub loop-at-init : goal.loop-at-init
loop-at-init c = marks_start c.args.strings.now c.in_ok-marks.marks.items (c.in_ok-marks.ensures.items_if_clones_equal (λ y e. search rules))

pub loop-at-preserved-then-at-eq0 : goal.loop-at-preserved-then-at-eq0
loop-at-preserved-then-at-eq0 c = marks_set _ _ _ _ _ _ c.loop-at.invariant (omega (arith, c.loop-at-test.true)) c.tail-hash.ensures c.if-at-eq0.true
