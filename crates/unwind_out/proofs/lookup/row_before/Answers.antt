use Rattle.std.proofs.Common.{◌+◌, ◌-◌, ◌*◌, ℕ, refl, ap, ◌∙◌, arith}
use Rattle.image_format.specs.Unwind.{unwind_index_entry_at}
use Rattle.image_format.specs.declared.unwind.UnwindIndexEntry.{UnwindIndexEntry}
use Rattle.unwind_out.specs.Lookup.{page_rows, row_at}
use Rattle.unwind_out.proofs.Places.{seeking_goes_on}
use Rattle.unwind_out.proofs.lookup.row_before.Goals as goal

pub loop-k-preserved : goal.loop-k-preserved
loop-k-preserved c =
    seeking_goes_on (λ (at : ℕ). page_rows c.args.section.now c.args.header (unwind_index_entry_at c.args.section.now at)) 12 c.args.header.index_offset (c.args.header.index_count - 1) c.args.offset
    c.loop-k.k c.loop-k.best c.page_before.result c.greater-best.result (c.args.header.index_offset + 12 * c.loop-k.k)
    c.loop-k.invariant (omega arith) refl
    (c.page_before.ensures ∙ ap (λ (entry : UnwindIndexEntry). row_at c.args.offset (page_rows c.args.section.now c.args.header entry)) c.read-entry.ensures)
    c.greater-best.ensures
