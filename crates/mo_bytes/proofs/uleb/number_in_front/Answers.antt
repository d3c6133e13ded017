use Rattle.std.proofs.Common.{arith, refl, inl, inr}
use Rattle.mo_bytes.proofs.Ulebs.{low_fits, sum_is, read_last, read_on, read_end, read_tenth}
use Rattle.mo_bytes.proofs.uleb.number_in_front.Goals as goal
use Rattle.mo_bytes.proofs.uleb.number_in_front.Goals.{else-count-via-then-count+else-byte-gt1, else-count-via-else-count}

pub returns-then-byte-gt1 : goal.returns-then-byte-gt1
returns-then-byte-gt1 c =
    read_tenth _ _ _ _ c.loop-count.invariant (record { at = refl; within = c.loop-count-test.true; byte = omega (arith, c.type_inv.bytes c.loop-count.count) }) c.if-count.true c.if-byte-gt1.true

pub overflow_add-value : goal.overflow_add-value
overflow_add-value c =
    let low = low_fits _ c.loop-count.count _ c.from.ensures (elim c.else-count.branch [
      | else-count-via-then-count+else-byte-gt1 w ↦ inl w.if-byte-gt1.false
      | else-count-via-else-count w ↦ inr w.if-count.false
    ]) in
    omega (arith, (sum_is _ _ _ _ c.loop-count.invariant low.0 low.1).small)

pub returns-then-byte-lt128 : goal.returns-then-byte-lt128
returns-then-byte-lt128 c =
    let low = low_fits _ c.loop-count.count _ c.from.ensures (elim c.else-count.branch [
      | else-count-via-then-count+else-byte-gt1 w ↦ inl w.if-byte-gt1.false
      | else-count-via-else-count w ↦ inr w.if-count.false
    ]) in
    read_last _ _ _ _ _ _ c.loop-count.invariant (record { at = refl; within = c.loop-count-test.true; byte = omega (arith, c.type_inv.bytes c.loop-count.count) }) c.from.ensures c.if-byte-lt128.true
    (sum_is _ _ _ _ c.loop-count.invariant low.0 low.1)

pub loop-count-preserved : goal.loop-count-preserved
loop-count-preserved c =
    let low = low_fits _ c.loop-count.count _ c.from.ensures (elim c.else-count.branch [
      | else-count-via-then-count+else-byte-gt1 w ↦ inl w.if-byte-gt1.false
      | else-count-via-else-count w ↦ inr w.if-count.false
    ]) in
    read_on _ _ _ _ _ _ c.loop-count.invariant (record { at = refl; within = c.loop-count-test.true; byte = omega (arith, c.type_inv.bytes c.loop-count.count) }) c.from.ensures c.if-byte-lt128.false
    (elim c.else-count.branch [
      | else-count-via-then-count+else-byte-gt1 w ↦ absurd (omega arith)
      | else-count-via-else-count w ↦ omega arith
    ])
    (sum_is _ _ _ _ c.loop-count.invariant low.0 low.1)

pub returns : goal.returns
returns c = read_end _ _ _ c.loop-count.invariant (omega arith)
