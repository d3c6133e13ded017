use Rattle.std.proofs.Common.{arith}
use Rattle.unwind_read.proofs.SectionLemmas.{all_more}
use Rattle.unwind_read.proofs.sections.add_sections.Goals as goal

pub loop-section-preserved : goal.loop-section-preserved
loop-section-preserved c =
    all_more c.args.cut.now.object.now c.args.cut.now.file c.args.sections.now c.args.out.now.unwinds.items c.loop-section.out.unwinds.items c.add_section.new.out.unwinds.items c.args.out.now.ranges c.loop-section.out.ranges c.add_section.new.out.ranges c.loop-section.section-index c.loop-section.fault c.in_ok-add_section.field-0 c.lesser-fault.result c.section-item.result
    c.loop-section.invariant (omega arith) c.section-item.is c.in_ok-add_section.ensures.fault c.lesser-fault.ensures c.in_ok-add_section.ensures.unwinds c.in_ok-add_section.ensures.spans
