use Rattle.std.proofs.Common.{◌≡◌, ◌∙◌, ◌-◌, ◌<◌, ap, sym, arith, false, get_or, length}
use Rattle.std.proofs.lemmas.List.{get_or_default}
use Rattle.unwind_read.specs.declared.spans.Span.{Span}
use Rattle.unwind_read.specs.Overlaps.{begin_of, end_of, is_before}
use Rattle.unwind_read.proofs.OverlapLemmas.{rise_all, rise_more}
use Rattle.unwind_read.proofs.overlaps.rise.Goals as goal

pub loop-at-preserved : goal.loop-at-preserved
loop-at-preserved c =
    let d : Span = record { place = 0; section = 0; from = 0; to = 0 } in
    let span : Span = get_or c.args.spans.now c.loop-at.at d in
    let last : Span = get_or c.args.spans.now (c.loop-at.at - 1) d in
    let apart : is_before (begin_of span) (end_of last) ≡ false =
    ap (λ a. is_before a (end_of last)) (sym c.begin_of.ensures) ∙ ap (λ b. is_before c.begin_of.result b) (sym c.end_of.ensures) ∙ sym c.is_before.ensures ∙ c.if-is_before.false in
    let within : c.loop-at.at < length c.args.spans.now = omega arith in
    let before : c.loop-at.at - 1 < length c.args.spans.now = omega arith in
    rise_more c.args.spans.now c.loop-at.at span last c.loop-at.invariant (omega arith) within
    (get_or_default c.args.spans.now c.loop-at.at d span within) (get_or_default c.args.spans.now (c.loop-at.at - 1) d last before) apart

pub returns : goal.returns
returns c = λ t. rise_all c.args.spans.now c.loop-at.at c.requires c.loop-at.invariant (omega arith)
