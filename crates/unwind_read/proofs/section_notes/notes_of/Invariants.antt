use Rattle.std.proofs.Common.{◌≡◌, map, take}
use Rattle.unwind_read.specs.SectionNotes.{note_of}
use Rattle.unwind_read.proofs.section_notes.notes_of.Given as goal

abbrev pub invariant-loop-section : goal.invariant-loop-section
invariant-loop-section l = l.notes.items ≡ map note_of (take l.section-index l.sections)
