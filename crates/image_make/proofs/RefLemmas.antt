-- Where the references of a whole file stand: each at one distance from its atom's start in the object's bytes.
use Rattle.std.proofs.Common.{◌≡◌, ℕ, suc, ◌+◌, ◌-◌, ◌≤◌, inl, inr, Bool, true, false, List, [], ◌∷◌, length, Option, Some, None, Result, Ok, refl, sym, ap, ◌∙◌, subst, arith, if◌then◌else◌}
use Rattle.std.specs.Prelude.{slice_get}
use Rattle.std.specs.List.{filter_map, range_with_len}
use Rattle.std.proofs.lemmas.Option.{slice_get_within}
use Rattle.list_lemmas.proofs.Members.{In, from_filter_map, in_either}
use Rattle.atom_cut.proofs.TileLemmas.{greatest_cut}
use Rattle.mo_types.specs.Atoms.{cut_of}
use Rattle.mo_types.specs.Loaded.{IsWholeFile}
use Rattle.mo_types.specs.Refs.{addend_of, has_absolute, has_authenticated, minus_of, or_fault, or_unsupported, reference_at, refs_from, refs_of, section_refs, target_of}
use Rattle.mo_types.specs.RelocationRules.{field_at, first_fault, pair_fault, place_fault, shape_fault, target_fault}
use Rattle.mo_types.specs.Rows.{first_before, kind_at, last_at}
use Rattle.mo_types.specs.Whole.{is_dropped}
use Rattle.mo_types.specs.declared.key.FileId.{FileId}
use Rattle.mo_types.specs.declared.loaded.LoadedFile.{LoadedFile}
use Rattle.mo_types.specs.declared.object.Object.{Object}
use Rattle.mo_types.specs.declared.object.RawReloc.{RawReloc}
use Rattle.mo_types.specs.declared.object.Section.{Section}
use Rattle.mo_types.specs.declared.reference.FieldRange.{FieldRange}
use Rattle.mo_types.specs.declared.reference.Ref.{Ref}
use Rattle.mo_types.specs.declared.reference.RefKind.{RefKind}
use Rattle.mo_types.specs.declared.reference.Target.{Target}
use Rattle.mo_types.specs.declared.reference_fault.RefFault.{RefFault}
use Rattle.mo_types.specs.declared.reference_fault.RefFault.TheVariants.{BadPair, BadShape, BadPlace, BadTarget}
use Rattle.patch.proofs.ChosenLemmas.{from_mapped, from_then}

rest_ok : (fault : ℕ → RefFault) (found : Option ℕ) (rest : Result (List Ref) RefFault) (refs : List Ref) → or_fault fault found rest ≡ Ok refs → rest ≡ Ok refs
rest_ok fault None rest refs e = e
rest_ok fault (Some place) rest refs e = absurd cc

all_there : (object : Object) (all refs : List Ref) → or_unsupported object (Ok all) ≡ Ok refs → all ≡ refs
all_there object all refs e = by (has_absolute object) (has_authenticated object) refl refl
  where
    by : (a b : Bool) → has_absolute object ≡ a → has_authenticated object ≡ b → all ≡ refs
    by true b p q = absurd (let f = rw p at e in cc)
    by false true p q = absurd (let f = rw (p, q) at e in cc)
    by false false p q = let f = rw (p, q) at e in cc

refs_are : (object : Object) (file : FileId) (refs : List Ref) → refs_of object file ≡ Ok refs → refs_from object file 1 object.sections ≡ refs
unfolding refs_of
refs_are object file refs e =
    all_there object (refs_from object file 1 object.sections) refs
    (rest_ok BadTarget (first_fault target_fault object) _ refs
    (rest_ok BadPlace (first_fault place_fault object) _ refs
    (rest_ok BadShape (first_fault shape_fault object) _ refs
    (rest_ok BadPair (first_fault pair_fault object) _ refs e))))

-- a reference of the section of a number: its field stands at so many bytes from the section's start
record IsInSection (file : FileId) (n : ℕ) (section : Section) (r : Ref) : Type 0 where
  pub of_file : r.atom.file ≡ file
  pub number : r.atom.section ≡ n
  pub place : r.file_place ≡ section.file_offset + (r.atom.offset + r.place)

placed_ref : (object : Object) (file : FileId) (n : ℕ) (section : Section) (at : ℕ) (r : Ref) → reference_at object file n section at ≡ Some r → IsInSection file n section r
unfolding reference_at
placed_ref object file n section at r e =
    let last = from_then _ (last_at section.relocs at) r e in
    let kind = from_then _ (kind_at section.relocs at) r last.2 in
    let field = from_then _ (field_at section.relocs at) r kind.2 in
    let target = from_mapped _ (target_of object file section.bytes field.0 last.0) r field.2 in
    by last.0 kind.0 field.0 target.0 (greatest_cut object n section field.0.offset).within target.2
  where
    by : (reloc : RawReloc) (kind : RefKind) (field : FieldRange) (target : Target) → cut_of object n section field.offset ≤ field.offset
        → ◌≡◌ {A = Ref} (record {
          atom = record { file = file; section = n; offset = cut_of object n section field.offset };
          place = field.offset - cut_of object n section field.offset;
          file_place = section.file_offset + field.offset;
          kind = kind;
          target = target;
          minus = minus_of (first_before section.relocs at);
          addend = addend_of section.bytes field (first_before section.relocs at) reloc;
        }) r
        → IsInSection file n section r
    by reloc kind field target within is = subst (IsInSection file n section) is (record { of_file = refl; number = refl; place = omega (arith, within) })

in_section : (object : Object) (file : FileId) (n : ℕ) (section : Section) (r : Ref) → In r (section_refs object file n section) → IsInSection file n section r
unfolding section_refs
in_section object file n section r h = by (is_dropped section) h
  where
    by : (b : Bool) → In r (if b then [] else filter_map (reference_at object file n section) (range_with_len 0 (length section.relocs))) → IsInSection file n section r
    by true there = absurd there
    by false there =
        let from = from_filter_map (reference_at object file n section) (range_with_len 0 (length section.relocs)) r there in
        placed_ref object file n section from.0 r from.2

-- a reference of one of some sections, which are numbered from a number on
record IsInSections (file : FileId) (n : ℕ) (sections : List Section) (r : Ref) : Type 0 where
  pub k : ℕ
  pub section : Section
  pub there : slice_get sections k ≡ Some section
  pub is : IsInSection file (n + k) section r

in_sections : (object : Object) (file : FileId) (n : ℕ) (sections : List Section) (r : Ref) → In r (refs_from object file n sections) → IsInSections file n sections r
in_sections object file n [] r h = absurd h
in_sections object file n (section ∷ sections) r h = elim (in_either (section_refs object file n section) (refs_from object file (n + 1) sections) r h) [
  | inl here ↦
      let same : n ≡ n + 0 = omega arith in
      record { k = 0; section = section; there = refl; is = subst (λ (m : ℕ). IsInSection file m section r) same (in_section object file n section r here) }
  | inr later ↦
      let rest = in_sections object file (n + 1) sections r later in
      let k : ℕ = rest.k in
      let same : n + 1 + k ≡ n + suc k = omega arith in
      record { k = suc k; section = rest.section; there = rest.there; is = subst (λ (m : ℕ). IsInSection file m rest.section r) same rest.is }
]

of_file : (file : LoadedFile) (r : Ref) → refs_of file.object file.id ≡ Ok file.refs → In r file.refs → IsInSections file.id 1 file.object.sections r
of_file file r read h = in_sections file.object file.id 1 file.object.sections r (subst (λ (rs : List Ref). In r rs) (sym (refs_are file.object file.id file.refs read)) h)

pub ref_file : (file : LoadedFile) (r : Ref) → IsWholeFile file → In r file.refs → r.atom.file ≡ file.id
ref_file file r whole h = (of_file file r whole.refs h).is.of_file

-- sections are few
pub section_low : (file : LoadedFile) (r : Ref) → IsWholeFile file → In r file.refs → r.atom.section ≤ 255
section_low file r whole h =
    let is = of_file file r whole.refs h in
    let low = slice_get_within file.object.sections is.k is.section is.there in
    let few = whole.object.few_sections in
    omega (arith, low, few, is.is.number)

some_is : {X : Type 0} (x y : X) → Some x ≡ Some y → x ≡ y
some_is x y e = cc

-- two references of one atom are as far apart in the object's bytes as in the atom
pub same_shift : (file : LoadedFile) (a b : Ref) → IsWholeFile file → In a file.refs → In b file.refs → a.atom.section ≡ b.atom.section → a.atom.offset ≡ b.atom.offset → a.file_place + b.place ≡ b.file_place + a.place
same_shift file a b whole h k section offset =
    let one = of_file file a whole.refs h in
    let two = of_file file b whole.refs k in
    let number : 1 + one.k ≡ 1 + two.k = sym one.is.number ∙ section ∙ two.is.number in
    let at : one.k ≡ two.k = omega (arith, number) in
    let same : one.section ≡ two.section = some_is one.section two.section (sym one.there ∙ ap (slice_get file.object.sections) at ∙ two.there) in
    let start : one.section.file_offset ≡ two.section.file_offset = ap (λ (s : Section). s.file_offset) same in
    omega (arith, start, one.is.place, two.is.place, offset)
