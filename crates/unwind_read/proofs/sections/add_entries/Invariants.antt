use Rattle.unwind_read.specs.Added.{Added}
use Rattle.unwind_read.proofs.sections.add_entries.Given as goal

abbrev pub invariant-loop-at : goal.invariant-loop-at
invariant-loop-at l = Added l.cut.object.now l.cut.file l.section l.initial.out.unwinds.items l.out.unwinds.items l.initial.out.ranges l.out.ranges l.at l.fault
