use Rattle.std.proofs.Common.{◌∙◌, ap, sym, Ok, []}
use Rattle.unwind_read.proofs.SectionLemmas.{all_entries, answer_fault, answer_unwinds}
use Rattle.unwind_read.proofs.unwind_of.Goals as goal

pub range_fault-requires-clause-entries : goal.range_fault-requires-clause-entries
range_fault-requires-clause-entries c =
    c.as_slice-6.ensures.value ∙ all_entries c.args.object.now c.args.file _ _ _ _ _ c.in_ok-broken.ensures c.in_ok-entries.ensures.unwinds

pub range_fault-requires-clause-ranges : goal.range_fault-requires-clause-ranges
range_fault-requires-clause-ranges c = c.in_ok-broken.ensures.spans [] c.in_ok-entries.ensures.ranges

pub returns-in-Some : goal.returns-in-Some
returns-in-Some c = λ u.
    answer_fault c.args.object.now c.args.file c.in_ok-broken.broken c.in_ok-overlapping.overlapping c.lesser.result c.in-Some.place c.in_ok-broken.ensures.told c.in_ok-overlapping.ensures c.lesser.ensures c.in-Some.is

pub returns : goal.returns
returns c =
    answer_unwinds c.args.object.now c.args.file c.in_ok-broken.broken c.in_ok-overlapping.overlapping c.lesser.result _ c.in_ok-broken.ensures.told
    (all_entries c.args.object.now c.args.file _ _ _ _ _ c.in_ok-broken.ensures c.in_ok-entries.ensures.unwinds)
    c.in_ok-overlapping.ensures c.lesser.ensures c.in_default.is
    ∙ ap Ok (sym c.from_vec.ensures)
