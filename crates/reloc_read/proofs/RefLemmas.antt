-- The references of an object, as rows and sections come.
use Rattle.std.proofs.Common.{◌≡◌, ℕ, ◌+◌, ◌<◌, ◌≤◌, ◌++◌, List, length, get_or, drop, true, false, Option, None, refl, sym, ap, ◌∙◌, append_assoc, append-nil}
use Rattle.std.specs.List.{filter_map, range_with_len}
use Rattle.std.specs.Option.{option_to_list}
use Rattle.std.proofs.lemmas.List.{drop_all, drop_more}
use Rattle.mo_types.specs.declared.key.FileId.{FileId}
use Rattle.mo_types.specs.declared.object.Object.{Object}
use Rattle.mo_types.specs.declared.object.Section.{Section}
use Rattle.mo_types.specs.declared.reference.Ref.{Ref}
use Rattle.mo_types.specs.RelocationRules.{field_at, place_fault, target_fault}
use Rattle.mo_types.specs.Refs.{reference_at, section_refs, refs_from}
use Rattle.mo_types.specs.Whole.{is_dropped}
use Rattle.reloc_read.specs.declared.linked_section.LinkedSection.{LinkedSection}
use Rattle.reloc_read.specs.Faults.{IsClean}
use Rattle.reloc_read.specs.LinkedSection.{IsLinked}
use Rattle.reloc_read.proofs.ApartLemmas.{mapped_more}
use Rattle.reloc_read.proofs.FaultLemmas.{element_at}
use Rattle.reloc_read.proofs.LinkedLemmas.{stands_at}
use Rattle.reloc_read.proofs.NoFaultLemmas.{no_row_fault}
use Rattle.reloc_read.proofs.RowLemmas.{no_reference}

-- the references of the rows before a place, after those at the start
pub record AreRefs (object : Object) (file : FileId) (number : ℕ) (section : Section) (start out : List Ref) (at : ℕ) : Type 0 where
  pub same : out ≡ start ++ filter_map (reference_at object file number section) (range_with_len 0 at)

pub refs_begin : (object : Object) (file : FileId) (number : ℕ) (section : Section) (start : List Ref) → AreRefs object file number section start start 0
refs_begin object file number section start = record { same = sym (append-nil start) }

pub refs_go_on : (object : Object) (file : FileId) (number : ℕ) (section : Section) (start out more : List Ref) (at : ℕ) (found : Option Ref) → AreRefs object file number section start out at → found ≡ reference_at object file number section at → more ≡ out ++ option_to_list found → AreRefs object file number section start more (at + 1)
refs_go_on object file number section start out more at found are is added = record {
  same =
      added ∙ ap (λ xs. xs ++ option_to_list found) are.same
      ∙ append_assoc start (filter_map (reference_at object file number section) (range_with_len 0 at)) (option_to_list found)
      ∙ ap (λ xs. start ++ xs) (sym (mapped_more (reference_at object file number section) at found (sym is)));
}

linked_refs : (object : Object) (file : FileId) (number : ℕ) (section : Section) → is_dropped section ≡ false → filter_map (reference_at object file number section) (range_with_len 0 (length section.relocs)) ≡ section_refs object file number section
unfolding section_refs
linked_refs object file number section kept = rw kept refl

pub refs_end : (object : Object) (file : FileId) (number : ℕ) (section : Section) (start out : List Ref) (at : ℕ) → AreRefs object file number section start out at → is_dropped section ≡ false → at ≡ length section.relocs → out ≡ start ++ section_refs object file number section
refs_end object file number section start out at are kept is =
    are.same ∙ ap (λ n. start ++ filter_map (reference_at object file number section) (range_with_len 0 n)) is
    ∙ ap (λ xs. start ++ xs) (linked_refs object file number section kept)

pub clean_place : (linked : LinkedSection) (at : ℕ) → IsLinked linked → IsClean linked.cut.object.now → at < length linked.section.now.relocs → place_fault linked.cut.object.now (linked.index + 1) linked.section.now at ≡ None
clean_place linked at is clean within = no_row_fault place_fault linked.cut.object.now linked.index linked.section.now at clean.place is.within is.is is.kept within

pub clean_target : (linked : LinkedSection) (at : ℕ) → IsLinked linked → IsClean linked.cut.object.now → at < length linked.section.now.relocs → target_fault linked.cut.object.now (linked.index + 1) linked.section.now at ≡ None
clean_target linked at is clean within = no_row_fault target_fault linked.cut.object.now linked.index linked.section.now at clean.target is.within is.is is.kept within

pub ruleset rows = (refs_begin, refs_go_on, refs_end)

pub ruleset cleans = (clean_place, clean_target)

-- where no row with a field ends, nothing is put at the end
pub no_row_refs : (object : Object) (file : FileId) (number : ℕ) (section : Section) (at : ℕ) (out : List Ref) → field_at section.relocs at ≡ None → out ≡ out ++ option_to_list (reference_at object file number section at)
no_row_refs object file number section at out none = sym (append-nil out) ∙ ap (λ found. out ++ option_to_list found) (no_reference object file number section at none)

pub ruleset nones = (no_row_refs)

pub dropped_refs : (object : Object) (file : FileId) (number : ℕ) (section : Section) (out : List Ref) → is_dropped section ≡ true → out ≡ out ++ section_refs object file number section
unfolding section_refs
dropped_refs object file number section out dropped = rw dropped (sym (append-nil out))

pub ruleset sections = (dropped_refs, stands_at)

-- the references of the sections before an index, after those at the start
pub record AreAll (object : Object) (file : FileId) (start out : List Ref) (index : ℕ) : Type 0 where
  pub same : out ++ refs_from object file (index + 1) (drop index object.sections) ≡ start ++ refs_from object file 1 object.sections

pub all_begin : (object : Object) (file : FileId) (start : List Ref) → AreAll object file start start 0
all_begin object file start = record { same = refl }

pub all_go_on : (object : Object) (file : FileId) (start out more : List Ref) (index : ℕ) → AreAll object file start out index → index < length object.sections → ((d : Section) → more ≡ out ++ section_refs object file (index + 1) (get_or object.sections index d)) → AreAll object file start more (index + 1)
all_go_on object file start out more index are within added =
    let section : Section = (element_at object.sections index within).0 in
    let rest : List Ref = refs_from object file (index + 1 + 1) (drop (index + 1) object.sections) in
    let from : refs_from object file (index + 1) (drop index object.sections) ≡ section_refs object file (index + 1) (get_or object.sections index section) ++ rest =
    ap (refs_from object file (index + 1)) (drop_more object.sections index section within) in
    record {
      same =
          ap (λ xs. xs ++ rest) (added section)
          ∙ append_assoc out (section_refs object file (index + 1) (get_or object.sections index section)) rest
          ∙ ap (λ xs. out ++ xs) (sym from) ∙ are.same;
    }

pub all_end : (object : Object) (file : FileId) (start out : List Ref) (index : ℕ) → AreAll object file start out index → length object.sections ≤ index → out ≡ start ++ refs_from object file 1 object.sections
all_end object file start out index are past =
    sym (append-nil out) ∙ sym (ap (λ xs. out ++ refs_from object file (index + 1) xs) (drop_all index object.sections past)) ∙ are.same

pub ruleset objects = (all_begin, all_go_on, all_end)
