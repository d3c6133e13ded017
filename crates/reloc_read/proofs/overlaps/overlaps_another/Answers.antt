use Rattle.std.proofs.Common.{◌≡◌, ◌+◌, ◌<◌, ltb, leb, arith, subst}
use Rattle.std.specs.List.{count_by}
use Rattle.reloc_read.specs.Overlaps.{AreBounds, Tells}
use Rattle.reloc_read.proofs.OverlapLemmas.{more_than_itself}
use Rattle.reloc_read.proofs.overlaps.overlaps_another.Goals as goal

pub returns-in-Somewhere : goal.returns-in-Somewhere
returns-in-Somewhere c = λ relocs at tells within is.
    let bounds : AreBounds relocs c.in-Somewhere.fields.items c.in-Somewhere.ends.items = subst (Tells relocs) c.in-Somewhere.is tells in
    let some : 0 < c.args.field.now.size = omega arith in
    let begun : c.begun_below-begun.result ≡ count_by (λ field. ltb field.offset (c.args.field.now.offset + c.args.field.now.size)) c.in-Somewhere.fields.items =
    rw c.as_slice.ensures.value at (c.begun_below-begun.ensures (rw c.as_slice.ensures.value bounds.sorted.rise)) in
    let ended : c.ended_by-ended.result ≡ count_by (λ end. leb end c.args.field.now.offset) c.in-Somewhere.ends.items =
    rw c.as_slice-in-Somewhere.ensures.value at (c.ended_by-ended.ensures (rw c.as_slice-in-Somewhere.ensures.value bounds.rise)) in
    more_than_itself relocs at c.args.field.now c.in-Somewhere.fields.items c.in-Somewhere.ends.items _ _ _ bounds within is some begun ended c.saturating_sub.ensures
