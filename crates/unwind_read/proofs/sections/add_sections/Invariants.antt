use Rattle.unwind_read.proofs.SectionLemmas.{AddedAll}
use Rattle.unwind_read.proofs.sections.add_sections.Given as goal

abbrev pub invariant-loop-section : goal.invariant-loop-section
invariant-loop-section l = AddedAll l.cut.object.now l.cut.file l.sections l.initial.out.unwinds.items l.out.unwinds.items l.initial.out.ranges l.out.ranges l.section-index l.fault
