use Rattle.std.proofs.Common.{◌∙◌, List, All, subst, sym}
use Rattle.unwind_read.specs.declared.spans.Span.{Span}
use Rattle.unwind_read.specs.Overlaps.{IsSpan}
use Rattle.unwind_read.proofs.RangeLemmas.{all_spans, none_overlap}
use Rattle.unwind_read.proofs.ranges.range_fault.Goals as goal

pub returns-then-ranges : goal.returns-then-ranges
returns-then-ranges c = none_overlap c.args.cut.now.object.now c.args.ranges.now c.requires.cut.whole c.requires.ranges c.if-ranges.true

pub are_apart-requires : goal.are_apart-requires
are_apart-requires c =
    subst (λ (xs : List Span). All IsSpan xs) (sym c.in_ok-spans_of.ensures) (all_spans c.args.cut.now.object.now c.requires.cut.whole)

pub overlap_fault-requires : goal.overlap_fault-requires
overlap_fault-requires c =
    subst (λ (xs : List Span). All IsSpan xs) (sym (c.as_slice.ensures.value ∙ c.in_ok-spans.ensures)) (all_spans c.args.cut.now.object.now c.requires.cut.whole)
