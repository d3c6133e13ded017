-- A linked section of an object with its atoms.
use Rattle.std.specs.Prelude.{ℕ, ◌+◌, ◌≡◌, ◌<◌, false, List, Option, length, slice_index_or}
use Rattle.mo_types.specs.RelocationRules as rules
use Rattle.mo_types.specs.Refs as refs
use Rattle.mo_types.specs.declared.object.Section.{Section}
use Rattle.mo_types.specs.declared.reference.Ref.{Ref}
use Rattle.mo_types.specs.Whole.{is_dropped}
use Rattle.reloc_read.specs.declared.linked_section.LinkedSection.{LinkedSection}
use Rattle.reloc_read.specs.CutObject.{IsCut}

-- the section stands at the index, and is linked
pub record IsLinked (linked : LinkedSection) : Type 0 where
  pub cut : IsCut linked.cut
  pub within : linked.index < length linked.cut.object.now.sections
  pub is : (d : Section) → slice_index_or linked.cut.object.now.sections linked.index d ≡ linked.section.now
  pub kept : is_dropped linked.section.now ≡ false

-- the relocation at fault by the rule of places, or of targets, where a row of its table ends
abbrev pub place_fault : LinkedSection → ℕ → Option ℕ
place_fault linked at = rules.place_fault linked.cut.object.now (linked.index + 1) linked.section.now at

abbrev pub target_fault : LinkedSection → ℕ → Option ℕ
target_fault linked at = rules.target_fault linked.cut.object.now (linked.index + 1) linked.section.now at

-- the reference of the row that ends at a place, and those of all rows
abbrev pub reference_at : LinkedSection → ℕ → Option Ref
reference_at linked at = refs.reference_at linked.cut.object.now linked.cut.file (linked.index + 1) linked.section.now at

abbrev pub refs_of : LinkedSection → List Ref
refs_of linked = refs.section_refs linked.cut.object.now linked.cut.file (linked.index + 1) linked.section.now
