use Rattle.std.proofs.Common.{◌<◌, arith, get_or, length}
use Rattle.std.proofs.lemmas.List.{get_or_default}
use Rattle.unwind_read.specs.declared.entry_rows.EntryRow.{EntryRow}
use Rattle.unwind_read.proofs.RowLemmas.{no_row, row_is_low}
use Rattle.unwind_read.proofs.SectionLemmas.{added_all, added_more, entry_row_is}
use Rattle.unwind_read.proofs.sections.add_entries.Goals as goal

pub relocs_in-relocs-requires : goal.relocs_in-relocs-requires
relocs_in-relocs-requires c =
    let within : c.loop-at.at < length c.args.rows.now = omega arith in
    let row : EntryRow = get_or c.args.rows.now c.loop-at.at no_row in
    row_is_low c.args.section.now.relocs c.args.rows.now c.loop-at.at row c.requires.rows within (get_or_default c.args.rows.now c.loop-at.at no_row row within)

pub add_entry-requires-clause-relocs : goal.add_entry-requires-clause-relocs
add_entry-requires-clause-relocs c =
    let within : c.loop-at.at < length c.args.rows.now = omega arith in
    let row : EntryRow = get_or c.args.rows.now c.loop-at.at no_row in
    entry_row_is c.args.section.now c.args.rows.now c.loop-at.at row c.relocs_in-relocs.result c.requires.rows within (get_or_default c.args.rows.now c.loop-at.at no_row row within) c.relocs_in-relocs.ensures

pub loop-at-preserved : goal.loop-at-preserved
loop-at-preserved c =
    added_more c.args.cut.now.object.now c.args.cut.now.file c.args.section.now c.args.out.now.unwinds.items c.loop-at.out.unwinds.items c.add_entry.new.out.unwinds.items c.args.out.now.ranges c.loop-at.out.ranges c.add_entry.new.out.ranges c.loop-at.at c.loop-at.fault c.in_ok-add_entry.field-0 c.lesser-fault.result
    c.loop-at.invariant c.in_ok-add_entry.ensures.fault c.lesser-fault.ensures c.in_ok-add_entry.ensures.unwinds c.in_ok-add_entry.ensures.spans

pub returns : goal.returns
returns c =
    added_all c.args.cut.now.object.now c.args.cut.now.file c.args.section.now c.args.out.now.unwinds.items c.loop-at.out.unwinds.items c.args.out.now.ranges c.loop-at.out.ranges c.loop-at.at c.loop-at.fault c.loop-at.invariant (omega (arith, c.requires.count))
