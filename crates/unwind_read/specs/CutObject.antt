-- An object with its atoms.
use Rattle.std.specs.Prelude.{◌≡◌, map}
use Rattle.mo_types.specs.Atoms.{atoms_of}
use Rattle.mo_types.specs.Whole.{IsWhole}
use Rattle.unwind_read.specs.declared.cut_object.CutObject.{CutObject}
use Rattle.unwind_read.specs.SectionNotes.{note_of}

-- the object is whole, and the atoms are its own, and so are the notes of its sections
pub record IsCut (cut : CutObject) : Type 0 where
  pub whole : IsWhole cut.object.now
  pub atoms : cut.atoms.now ≡ atoms_of cut.object.now cut.file
  pub notes : cut.notes.now ≡ map note_of cut.object.now.sections
