use Rattle.std.proofs.Common.{◌∙◌, List, All, ap, subst, sym}
use Rattle.mo_types.specs.RelocationRules.{least}
use Rattle.unwind_read.specs.declared.spans.Span.{Span}
use Rattle.unwind_read.specs.Overlaps.{IsSpan, overlap_faults}
use Rattle.unwind_read.proofs.MovedLemmas.{all_moved, none_moved}
use Rattle.unwind_read.proofs.overlaps.are_apart.Goals as goal

pub rise-requires : goal.rise-requires
rise-requires c =
    subst (λ (xs : List Span). All IsSpan xs) (sym c.as_slice.ensures.value) (all_moved c.args.spans.items c.by_begin-sorted.result.items c.by_begin-sorted.ensures c.requires)

pub returns : goal.returns
returns c = λ told.
    none_moved c.args.spans.items c.by_begin-sorted.result.items c.by_begin-sorted.ensures c.requires (c.rise.ensures told ∙ ap (λ xs. least (overlap_faults xs)) c.as_slice.ensures.value)
