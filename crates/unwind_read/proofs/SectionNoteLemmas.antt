-- What is noted of a section.
use Rattle.std.proofs.Common.{◌≡◌, ℕ, ◌-◌, List, map, slice_get, Some, None, ap, ◌∙◌, inl, inr}
use Rattle.std.specs.Option.{option_map}
use Rattle.std.proofs.lemmas.Bool.{cases_eq, eq-eqb, ne_eqb}
use Rattle.std.proofs.lemmas.Option.{slice_get-map}
use Rattle.mo_types.specs.declared.object.Section.{Section}
use Rattle.mo_types.specs.RelocationRules.{section_numbered}
use Rattle.unwind_read.specs.declared.section_notes.SectionNote.{SectionNote}
use Rattle.unwind_read.specs.SectionNotes.{note_of}

same_note : (x y : SectionNote) → Some x ≡ Some y → x ≡ y
same_note x y e = cc

got : (sections : List Section) (number : ℕ) (section : Section) → section_numbered sections number ≡ Some section → slice_get sections (number - 1) ≡ Some section
got sections number section e =
    elim (cases_eq number 0) [
      | inl zero_is ↦ absurd (none_some section (rw (eq-eqb number 0 zero_is) at e))
      | inr some ↦ rw (ne_eqb number 0 some) at e
    ]
  where
    none_some : (x : Section) → None ≡ Some x → ⊥
    none_some x e = cc

pub note_is : (sections : List Section) (notes : List SectionNote) (number : ℕ) (section : Section) (note : SectionNote) → notes ≡ map note_of sections → section_numbered sections number ≡ Some section → Some note ≡ slice_get notes (number - 1) → note ≡ note_of section
note_is sections notes number section note are has is =
    same_note note (note_of section)
    (is ∙ ap (λ xs. slice_get xs (number - 1)) are ∙ slice_get-map note_of sections (number - 1) ∙ ap (option_map note_of) (got sections number section has))

pub ruleset notes = (note_is)
