use Rattle.std.proofs.Common.{◌∙◌, not, ap, get_or}
use Rattle.std.specs.List.{count_by}
use Rattle.std.proofs.lemmas.List.{get_or_default}
use Rattle.unwind_read.specs.declared.spans.Span.{Span}
use Rattle.unwind_read.specs.Overlaps.{is_before}
use Rattle.unwind_read.proofs.OverlapLemmas.{more_than_itself}
use Rattle.unwind_read.proofs.overlaps.overlaps_another.Goals as goal

pub returns : goal.returns
returns c =
    let d : Span = record { place = 0; section = 0; from = 0; to = 0 } in
    let own : Span = get_or c.args.spans.now c.args.at d in
    more_than_itself c.args.spans.now c.args.at c.args.begins.now c.args.ends.now own c.count_before-begun.result c.count_up_to-ended.result c.saturating_sub.result c.requires.spans c.requires.bounds c.requires.within
    (get_or_default c.args.spans.now c.args.at d own c.requires.within)
    (c.count_before-begun.ensures ∙ ap (λ b. count_by (λ other. is_before other b) c.args.begins.now) c.end_of.ensures)
    (c.count_up_to-ended.ensures ∙ ap (λ b. count_by (λ other. not (is_before b other)) c.args.ends.now) c.begin_of.ensures)
    c.saturating_sub.ensures
