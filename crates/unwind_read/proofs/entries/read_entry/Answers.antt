use Rattle.std.proofs.Common.{◌<◌, refl, subst, ℕ}
use Rattle.unwind_read.proofs.EntryLemmas.{kept_says, passes, positive}
use Rattle.unwind_read.proofs.entries.read_entry.Goals as goal

pub returns-clause-value : goal.returns-clause-value
returns-clause-value c =
    kept_says c.args.cut.now.object.now c.args.cut.now.file c.args.place c.args.entry.now c.args.relocs.now c.in_ok-function.function c.atom_of.result c.offset_of.result c.length_of-length.result c.args.entry.now.encoding c.in_ok-personality.personality c.in_ok-lsda.lsda c.span_of.result
    (passes c.args.cut.now.object.now c.args.entry.now c.args.relocs.now c.in_ok-function.ensures.fault c.in_ok-lsda.ensures.fault c.in_ok-personality.ensures.fault)
    c.in_ok-function.ensures.value
    (subst (λ (n : ℕ). 0 < n) c.length_of-length.ensures (positive c.length_of-length.result c.if-length-eq0.false))
    c.atom_of.ensures c.offset_of.ensures c.length_of-length.ensures refl c.in_ok-personality.ensures.value c.in_ok-lsda.ensures.value c.span_of.ensures
