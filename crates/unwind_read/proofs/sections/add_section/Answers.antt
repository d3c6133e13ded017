use Rattle.std.proofs.Common.{◌∙◌, ap, sym, refl}
use Rattle.reloc_read.specs.Faults.{lesser}
use Rattle.unwind_read.specs.Rules.{entry_count}
use Rattle.unwind_read.proofs.RuleLemmas.{section_least}
use Rattle.unwind_read.proofs.SectionLemmas.{no_section_spans, section_spans_are, section_unwinds_are}
use Rattle.unwind_read.proofs.sections.add_section.Goals as goal

pub returns-clause-fault : goal.returns-clause-fault
returns-clause-fault c =
    section_least c.args.cut.now.object.now c.args.section.now c.not_whole.result c.in_ok-pointers.pointers.fault c.in_ok-broken.broken _ (sym c.if-not-has_entries.ensures) c.not_whole.ensures
    (c.in_ok-pointers.ensures.fault c.args.cut.now.object.now) c.in_ok-broken.ensures.told (c.lesser.ensures ∙ ap (lesser c.not_whole.result) c.lesser-other.ensures)

pub returns-clause-unwinds : goal.returns-clause-unwinds
returns-clause-unwinds c =
    section_unwinds_are c.args.cut.now.object.now c.args.cut.now.file c.args.section.now _ _ (entry_count c.args.section.now) (sym c.if-not-has_entries.ensures) refl c.in_ok-broken.ensures.entries

pub returns-clause-spans : goal.returns-clause-spans
returns-clause-spans c = λ spans are.
    section_spans_are c.args.cut.now.object.now c.args.section.now _ spans (entry_count c.args.section.now) (sym c.if-not-has_entries.ensures) refl (c.in_ok-broken.ensures.spans spans are)

pub returns-then-not-has_entries-clause-spans : goal.returns-then-not-has_entries-clause-spans
returns-then-not-has_entries-clause-spans c = λ spans are.
    no_section_spans c.args.cut.now.object.now c.args.section.now c.args.out.now.ranges spans (sym c.if-not-has_entries.ensures) are
