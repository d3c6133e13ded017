-- What is asked of a section for each field that leads into it.
use Rattle.std.specs.Prelude.{not, codes}
use Rattle.std.specs.Str.{bytes_eq}
use Rattle.mo_types.specs.declared.object.Section.{Section}
use Rattle.mo_types.specs.Whole.{is_dropped}
use Rattle.unwind_read.specs.declared.section_notes.SectionNote.{SectionNote}

-- whether it is linked, and whether it is in __TEXT
abbrev pub note_of : Section → SectionNote
note_of section = record { is_linked = not (is_dropped section); in_text = bytes_eq section.segment (codes "__TEXT") }
