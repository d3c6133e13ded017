use Rattle.std.proofs.Common.{rules}
use Rattle.unwind_read.proofs.SectionNoteLemmas.{note_is}
use Rattle.unwind_read.proofs.section_notes.note_at.Goals as goal

pub returns-in-Some : goal.returns-in-Some
returns-in-Some c =
    note_is c.args.sections.now c.args.notes.now c.args.number c.args.section.now c.in-Some.note.now c.requires.notes c.requires.numbered (search rules)
