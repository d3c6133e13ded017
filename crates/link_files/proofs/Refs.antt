-- The references of an object: the atom that has each, and that its targets are there.
use Rattle.std.proofs.Common.{◌≡◌, ℕ, zero, suc, ◌+◌, ◌-◌, ◌*◌, ◌<◌, ◌≤◌, ◌^◌, ◌%◌, ◌==◌, ◌&&◌, ◌||◌, not, Bool, true, false, nat_lt, List, [], ◌∷◌, length, Option, Some, None, Result, Ok, Err, inl, inr, refl, sym, ap, ◌∙◌, subst, arith, if◌then◌else◌}
use Rattle.std.specs.Prelude.{IfSome, is_none, nat_le, slice_get}
use Rattle.std.specs.List.{range_with_len}
use Rattle.std.specs.Option.{option_map, option_map_or}
use Rattle.std.proofs.lemmas.Bool.{false≢true, leb-true, ltb-true, ne_eqb}
use Rattle.list_lemmas.proofs.Members.{In, from_filter_map, in_either}
use Rattle.mo_types.specs.Atoms.{cut_of}
use Rattle.mo_types.specs.Refs.{or_fault, or_unsupported, has_absolute, has_authenticated, minus_of, place_of, reference_at, refs_from, refs_of, section_refs, target_of}
use Rattle.mo_types.specs.RelocationRules.{RelocationRule, faults_from, faults_in, field_at, field_number, first_fault, has_fields, is_bad_field, is_bad_target, is_in_one_atom, is_misplaced, is_outside, is_unnameable, is_within, least, overlaps_another, pair_fault, place_fault, row_start, section_numbered, shape_fault, target_fault}
use Rattle.mo_types.specs.Rows.{field_size, first_before, is_distance, is_instruction, is_subtractor, is_value, kind_alone, kind_at, kind_of, last_at, when}
use Rattle.mo_types.specs.Whole.{is_dropped, is_strings, is_zerofill, literal_size}
use Rattle.mo_types.specs.declared.key.AtomKey.{AtomKey}
use Rattle.mo_types.specs.declared.key.FileId.{FileId}
use Rattle.mo_types.specs.declared.object.Object.{Object}
use Rattle.mo_types.specs.declared.object.RawReloc.{RawReloc}
use Rattle.mo_types.specs.declared.object.Section.{Section}
use Rattle.mo_types.specs.declared.object.Symbol.{Symbol}
use Rattle.mo_types.specs.declared.reference.FieldRange.{FieldRange}
use Rattle.mo_types.specs.declared.reference.Ref.{Ref}
use Rattle.mo_types.specs.declared.reference.RefKind.{RefKind}
use Rattle.mo_types.specs.declared.reference.RefKind.TheVariants.{Pointer, Diff32, Diff64, Branch, Page, PageOff, GotPage, GotPageOff, GotDelta, GotPointer, TlvPage, TlvPageOff}
use Rattle.mo_types.specs.declared.reference.Target.{Target}
use Rattle.mo_types.specs.declared.reference.Target.TheVariants.{Name, Local}
use Rattle.mo_types.specs.declared.reference_fault.RefFault.{RefFault}
use Rattle.mo_types.specs.declared.reference_fault.RefFault.TheVariants.{BadPair, BadShape, BadPlace, BadTarget}
use Rattle.atom_cut.proofs.TileLemmas.{greatest_cut}
use Rattle.patch.proofs.ChosenLemmas.{both, not_false}
use Rattle.link_files.proofs.Cuts.{key_at}
use Rattle.link_files.proofs.Lists.{both_empty, from_mapped, from_then, from_when, neither, no_some, none_chosen, not_none, not_second, not_when, some_is}

-- ---- what the rules leave

no_value : {Y : Type 0} (fault : RefFault) (refs : List Ref) → ◌≡◌ {A = Result (List Ref) RefFault} (Err fault) (Ok refs) → Y
no_value fault refs e = absurd cc

same_value : (all refs : List Ref) → ◌≡◌ {A = Result (List Ref) RefFault} (Ok all) (Ok refs) → all ≡ refs
same_value all refs e = cc

no_fault : (fault : ℕ → RefFault) (found : Option ℕ) (rest : Result (List Ref) RefFault) (refs : List Ref) → or_fault fault found rest ≡ Ok refs → (found ≡ None) × (rest ≡ Ok refs)
no_fault fault None rest refs e = (refl, e)
no_fault fault (Some place) rest refs e = no_value (fault place) refs e

all_supported : (object : Object) (all refs : List Ref) → or_unsupported object (Ok all) ≡ Ok refs → all ≡ refs
all_supported object all refs e = by (has_absolute object) (has_authenticated object) refl refl
  where
    by : (a b : Bool) → has_absolute object ≡ a → has_authenticated object ≡ b → all ≡ refs
    by true b p q = no_value _ refs (rw p at e)
    by false true p q = no_value _ refs (rw (p, q) at e)
    by false false p q = same_value all refs (rw (p, q) at e)

-- the references are those of the sections, and each target may be named
pub record AreRead (object : Object) (file : FileId) (refs : List Ref) : Type 0 where
  pub places : first_fault place_fault object ≡ None
  pub targets : first_fault target_fault object ≡ None
  pub all : refs_from object file 1 object.sections ≡ refs

pub are_read : (object : Object) (file : FileId) (refs : List Ref) → refs_of object file ≡ Ok refs → AreRead object file refs
unfolding refs_of
are_read object file refs e =
    let pair = no_fault BadPair (first_fault pair_fault object) _ refs e in
    let shape = no_fault BadShape (first_fault shape_fault object) _ refs pair.1 in
    let place = no_fault BadPlace (first_fault place_fault object) _ refs shape.1 in
    let target = no_fault BadTarget (first_fault target_fault object) _ refs place.1 in
    record { places = place.0; targets = target.0; all = all_supported object (refs_from object file 1 object.sections) refs target.1 }

no_least : (xs : List ℕ) → least xs ≡ None → xs ≡ []
no_least [] e = refl
no_least (x ∷ xs) e = not_none _ e

none_from : (rule : RelocationRule) (object : Object) (number : ℕ) (sections : List Section) (k : ℕ) (section : Section) → faults_from rule object number sections ≡ [] → slice_get sections k ≡ Some section → faults_in rule object (number + k) section ≡ []
none_from rule object number [] k section none is = no_some section is
none_from rule object number (first ∷ sections) zero section none is =
    let here : number + 0 ≡ number = omega arith in
    ap (λ (n : ℕ). faults_in rule object n section) here ∙ ap (faults_in rule object number) (sym (some_is first section is)) ∙ (both_empty (faults_in rule object number first) (faults_from rule object (number + 1) sections) none).0
none_from rule object number (first ∷ sections) (suc k) section none is =
    let same : number + suc k ≡ number + 1 + k = omega arith in
    ap (λ (n : ℕ). faults_in rule object n section) same ∙ none_from rule object (number + 1) sections k section (both_empty (faults_in rule object number first) (faults_from rule object (number + 1) sections) none).1 is

no_place : (f : ℕ → ℕ) (o : Option ℕ) → option_map f o ≡ None → o ≡ None
no_place f None e = refl
no_place f (Some x) e = not_none (f x) e

none_in : (rule : RelocationRule) (object : Object) (number : ℕ) (section : Section) (at : ℕ) → faults_in rule object number section ≡ [] → is_dropped section ≡ false → In at (range_with_len 0 (length section.relocs)) → rule object number section at ≡ None
unfolding faults_in
none_in rule object number section at none linked h =
    no_place (λ index. section.reloc_offset + 8 * index) (rule object number section at)
    (none_chosen (λ at. option_map (λ index. section.reloc_offset + 8 * index) (rule object number section at)) (range_with_len 0 (length section.relocs)) at (rw linked at none) h)

-- ---- where a reference comes from

record IsOfSection (object : Object) (file : FileId) (number : ℕ) (sections : List Section) (r : Ref) : Type 0 where
  pub k : ℕ
  pub section : Section
  pub there : slice_get sections k ≡ Some section
  pub among : In r (section_refs object file (number + k) section)

from_sections : (object : Object) (file : FileId) (number : ℕ) (sections : List Section) (r : Ref) → In r (refs_from object file number sections) → IsOfSection object file number sections r
from_sections object file number [] r h = absurd h
from_sections object file number (section ∷ sections) r h = elim (in_either (section_refs object file number section) (refs_from object file (number + 1) sections) r h) [
  | inl here ↦ let same : number ≡ number + 0 = omega arith in record { k = 0; section = section; there = refl; among = subst (λ (n : ℕ). In r (section_refs object file n section)) same here }
  | inr there ↦
      let rest = from_sections object file (number + 1) sections r there in
      let k : ℕ = rest.k in
      let same : number + 1 + k ≡ number + suc k = omega arith in
      record { k = suc k; section = rest.section; there = rest.there; among = subst (λ (n : ℕ). In r (section_refs object file n rest.section)) same rest.among }
]

-- a place in an atom of a linked section, at an offset from the section's start
pub record IsPlaceOf (object : Object) (file : FileId) (atom : AtomKey) (offset : ℕ) : Type 0 where
  pub number : ℕ
  pub section : Section
  pub at : ℕ
  pub numbered : section_numbered object.sections number ≡ Some section
  pub linked : is_dropped section ≡ false
  pub named : atom ≡ key_at file number (cut_of object number section at)
  pub within : at ≤ section.size
  pub from_cut : offset ≡ at - cut_of object number section at

-- a target that is there
abbrev pub IsTargetOf : Object → FileId → Target → Type 0
IsTargetOf object file (Name index) = (symbol : Symbol) × (slice_get object.symbols index ≡ Some symbol)
IsTargetOf object file (Local atom offset) = IsPlaceOf object file atom offset

good_symbol : (object : Object) (index : ℕ) → option_map_or (is_unnameable object.sections) (slice_get object.symbols index) true ≡ false → (symbol : Symbol) × (slice_get object.symbols index ≡ Some symbol)
good_symbol object index e = by (slice_get object.symbols index) refl
  where
    by : (o : Option Symbol) → slice_get object.symbols index ≡ o → (symbol : Symbol) × (slice_get object.symbols index ≡ Some symbol)
    by None f = absurd (false≢true (sym (rw f at e)))
    by (Some symbol) f = (symbol, f)

good_section : (sections : List Section) (number address : ℕ) (section : Section) → is_outside sections number address ≡ false → section_numbered sections number ≡ Some section → (is_dropped section ≡ false) × (not (is_within section address) ≡ false)
good_section sections number address section e f = neither (is_dropped section) (not (is_within section address)) (rw f at e)

-- how far an address of a section is from its start
far : (section : Section) (address : ℕ) → not (is_within section address) ≡ false → address - section.address ≤ section.size
far section address e =
    let high = leb-true address (section.address + section.size) (both (nat_le section.address address) (nat_le address (section.address + section.size)) (not_false (is_within section address) e)).1 in
    omega (arith, high)

good_target : (object : Object) (file : FileId) (bytes : List ℕ) (field : FieldRange) (reloc : RawReloc) (target : Target) → is_bad_target object bytes field reloc ≡ false → target_of object file bytes field reloc ≡ Some target → IsTargetOf object file target
good_target object file bytes field reloc target good is = by reloc.external refl
  where
    by : (b : Bool) → reloc.external ≡ b → IsTargetOf object file target
    by true e =
        let named : Name reloc.number ≡ target = some_is (Name reloc.number) target (rw e at is) in
        subst (IsTargetOf object file) named (good_symbol object reloc.number (rw e at good))
    by false e =
        let address : ℕ = field_number bytes field in
        let found = from_mapped (place_of object file reloc.number address) (section_numbered object.sections reloc.number) target (rw e at is) in
        let both_pass = good_section object.sections reloc.number address found.0 (rw e at good) found.1 in
        subst (IsTargetOf object file) found.2 (record {
          number = reloc.number;
          section = found.0;
          at = address - found.0.address;
          numbered = found.1;
          linked = both_pass.0;
          named = refl;
          within = far found.0 address both_pass.1;
          from_cut = refl;
        })

-- a symbol
abbrev pub IsName : Target → Type 0
IsName (Name index) = Unit {0}
IsName (Local atom offset) = ⊥

-- nothing but symbols is subtracted
minus_named : (first : Option RawReloc) → IfSome (minus_of first) IsName
minus_named None = tt
minus_named (Some first) = by (is_subtractor first)
  where
    by : (b : Bool) → IfSome (if b then Some (Name first.number) else None) IsName
    by true = tt
    by false = tt

-- what is subtracted is there, where the kind is that of a difference
abbrev pub HasMinus : Object → FileId → Option Target → Type 0
HasMinus object file None = ⊥
HasMinus object file (Some target) = IsTargetOf object file target

abbrev pub HasMinusBy : RefKind → Object → FileId → Option Target → Type 0
HasMinusBy Diff32 object file minus = HasMinus object file minus
HasMinusBy Diff64 object file minus = HasMinus object file minus
HasMinusBy _ object file minus = Unit {0}

-- no kind but that of a difference
abbrev IsNoDifference : RefKind → Type 0
IsNoDifference Diff32 = ⊥
IsNoDifference Diff64 = ⊥
IsNoDifference _ = Unit {0}

abbrev Holds : Option RefKind → Type 0
Holds None = Unit {0}
Holds (Some kind) = IsNoDifference kind

either : (b : Bool) (x y : Option RefKind) → Holds x → Holds y → Holds (if b then x else y)
either true x y p q = p
either false x y p q = q

whenever : (b : Bool) (kind : RefKind) → IsNoDifference kind → Holds (when b kind)
whenever true kind p = p
whenever false kind p = tt

alone : (reloc : RawReloc) → Holds (kind_alone reloc)
alone reloc =
    either (reloc.kind == 0) _ _ (whenever _ Pointer tt)
    (either (reloc.kind == 2) _ _ (whenever _ Branch tt)
    (either (reloc.kind == 3) _ _ (whenever _ Page tt)
    (either (reloc.kind == 4) _ _ (whenever _ PageOff tt)
    (either (reloc.kind == 5) _ _ (whenever _ GotPage tt)
    (either (reloc.kind == 6) _ _ (whenever _ GotPageOff tt)
    (either (reloc.kind == 7) _ _ (either (is_distance reloc) (Some GotDelta) (when (is_value 3 reloc) GotPointer) (tt {0}) (whenever (is_value 3 reloc) GotPointer tt))
    (either (reloc.kind == 8) _ _ (whenever _ TlvPage tt)
    (either (reloc.kind == 9) _ _ (whenever _ TlvPageOff tt) tt))))))))

minus_alone : (object : Object) (file : FileId) (kind : RefKind) (minus : Option Target) → IsNoDifference kind → HasMinusBy kind object file minus
minus_alone object file Diff32 minus none = absurd none
minus_alone object file Diff64 minus none = absurd none
minus_alone object file _ minus none = tt

minus_by : (object : Object) (file : FileId) (kind : RefKind) (minus : Option Target) → HasMinus object file minus → HasMinusBy kind object file minus
minus_by object file Diff32 minus has = has
minus_by object file Diff64 minus has = has
minus_by object file _ minus has = tt

-- the four tests of a difference
is_external : (a b c d : Bool) (x : Option RefKind) (kind : RefKind) → (if a && b && c && d then x else None) ≡ Some kind → b ≡ true
is_external true true c d x kind e = refl
is_external true false c d x kind e = no_some kind e
is_external false b c d x kind e = no_some kind e

has_minus : (object : Object) (file : FileId) (bytes : List ℕ) (field : FieldRange) (first : Option RawReloc) (reloc : RawReloc) (kind : RefKind) → kind_of first reloc ≡ Some kind → option_map_or (λ first. is_subtractor first && is_bad_target object bytes field first) first false ≡ false → HasMinusBy kind object file (minus_of first)
unfolding kind_of
has_minus object file bytes field None reloc kind e good = minus_alone object file kind None (subst Holds e (alone reloc))
has_minus object file bytes field (Some first) reloc kind e good = by (is_subtractor first) refl
  where
    by : (b : Bool) → is_subtractor first ≡ b → HasMinusBy kind object file (minus_of (Some first))
    by false f = minus_alone object file kind (minus_of (Some first)) (subst Holds (rw f at e) (alone reloc))
    by true f =
        let external : first.external ≡ true = is_external _ first.external _ _ _ kind (rw f at e) in
        let fine : is_bad_target object bytes field first ≡ false = not_second (is_subtractor first) (is_bad_target object bytes field first) good f in
        minus_by object file kind (minus_of (Some first)) (rw f (good_symbol object first.number (rw external at fine)))

-- what holds of a reference that was read: its atom is that of an offset of a linked section with bytes
pub record IsRead (object : Object) (file : FileId) (r : Ref) : Type 0 where
  pub number : ℕ
  pub section : Section
  pub numbered : section_numbered object.sections number ≡ Some section
  pub linked : is_dropped section ≡ false
  pub solid : is_zerofill section.kind ≡ false
  pub at : ℕ
  pub offset : ℕ
  pub cut : offset ≡ cut_of object number section at
  pub atom : r.atom ≡ key_at file number offset
  pub low : offset < 2 ^ 31
  pub place : r.file_place ≡ section.file_offset + (offset + r.place)
  pub target : IsTargetOf object file r.target
  pub minus : HasMinusBy r.kind object file r.minus
  pub subtracted : IfSome r.minus IsName

low_field : (relocs : List RawReloc) (at : ℕ) (field : FieldRange) → field_at relocs at ≡ Some field → field.offset < 2 ^ 31
unfolding field_at
low_field relocs at field e =
    let kind = from_then _ (kind_at relocs at) field e in
    let reloc = from_then _ (slice_get relocs at) field kind.2 in
    let size : ℕ = field_size kind.0 in
    let given : FieldRange = record { offset = reloc.0.address; size = size } in
    let found = from_when (nat_lt reloc.0.address (2 ^ 31)) given field reloc.2 in
    subst (λ (f : FieldRange). f.offset < 2 ^ 31) found.1 (ltb-true reloc.0.address (2 ^ 31) found.0)

-- a section with fields has bytes
solid_there : (object : Object) (number : ℕ) (section : Section) (at : ℕ) (kind : RefKind) (field : FieldRange) → place_fault object number section at ≡ None → kind_at section.relocs at ≡ Some kind → field_at section.relocs at ≡ Some field → is_zerofill section.kind ≡ false
unfolding place_fault
solid_there object number section at kind field good is_kind is_field =
    let placed : is_misplaced object number section at kind ≡ false = not_when (is_misplaced object number section at kind) (row_start section.relocs at) (rw is_kind at good) in
    let fine : is_bad_field object number section at kind field ≡ false = rw is_field at placed in
    let fields = (neither (not (is_in_one_atom object number section field) || (is_instruction kind && not (field.offset % 4 == 0)) || overlaps_another section.relocs at field) (not (has_fields section)) fine).1 in
    empty (is_zerofill section.kind) (is_strings section.kind) (is_none (literal_size section.kind)) fields
  where
    empty : (a b c : Bool) → not (not a && not b && c) ≡ false → a ≡ false
    empty true b c e = absurd (false≢true (sym e))
    empty false b c e = refl

-- a section by its place from 0 and by its number from 1
numbered_so : (sections : List Section) (k : ℕ) (section : Section) → slice_get sections k ≡ Some section → section_numbered sections (1 + k) ≡ Some section
numbered_so sections k section is =
    let above : (1 + k == 0) ≡ false = ne_eqb (1 + k) 0 (λ e. omega (arith, e)) in
    let same : 1 + k - 1 ≡ k = omega arith in
    rw above (ap (slice_get sections) same ∙ is)

read_at : (object : Object) (file : FileId) (number : ℕ) (section : Section) (at : ℕ) (r : Ref) → section_numbered object.sections number ≡ Some section → is_dropped section ≡ false → reference_at object file number section at ≡ Some r → place_fault object number section at ≡ None → target_fault object number section at ≡ None → IsRead object file r
unfolding reference_at target_fault kind_at
read_at object file number section at r numbered linked e placed good =
    let last = from_then _ (last_at section.relocs at) r e in
    let kind = from_then _ (kind_at section.relocs at) r last.2 in
    let field = from_then _ (field_at section.relocs at) r kind.2 in
    let target = from_mapped _ (target_of object file section.bytes field.0 last.0) r field.2 in
    let low = low_field section.relocs at field.0 field.1 in
    let within = (greatest_cut object number section field.0.offset).within in
    by last.0 kind.0 field.0 target.0 last.1 kind.1 field.1 target.1 within target.2 (omega (arith, low, within)) (solid_there object number section at kind.0 field.0 placed kind.1 field.1)
  where
    -- neither target is a bad one
    fine : (a b : Bool) (at : ℕ) → (if a then Some (at - 1) else when b at) ≡ None → (a ≡ false) × (b ≡ false)
    fine true b at none = not_none (at - 1) none
    fine false b at none = (refl, not_when b at none)

    by : (reloc : RawReloc) (kind : RefKind) (field : FieldRange) (target : Target) → last_at section.relocs at ≡ Some reloc → kind_at section.relocs at ≡ Some kind → field_at section.relocs at ≡ Some field → target_of object file section.bytes field reloc ≡ Some target → cut_of object number section field.offset ≤ field.offset
        → ◌≡◌ {A = Ref} (record {
          atom = key_at file number (cut_of object number section field.offset);
          place = field.offset - cut_of object number section field.offset;
          file_place = section.file_offset + field.offset;
          kind = kind;
          target = target;
          minus = minus_of (first_before section.relocs at);
          addend = Rattle.mo_types.specs.Refs.addend_of section.bytes field (first_before section.relocs at) reloc;
        }) r
        → cut_of object number section field.offset < 2 ^ 31 → is_zerofill section.kind ≡ false → IsRead object file r
    by reloc kind field target is_last is_kind is_field is_target within is low solid =
        let tests = fine (option_map_or (λ first. is_subtractor first && is_bad_target object section.bytes field first) (first_before section.relocs at) false) (is_bad_target object section.bytes field reloc) at (rw (is_field, is_last) at good) in
        let kinds : kind_of (first_before section.relocs at) reloc ≡ Some kind = rw is_last at is_kind in
        subst (IsRead object file) is (record {
          number = number;
          section = section;
          numbered = numbered;
          linked = linked;
          solid = solid;
          at = field.offset;
          offset = cut_of object number section field.offset;
          cut = refl;
          atom = refl;
          low = low;
          place = omega (arith, within);
          target = good_target object file section.bytes field reloc target tests.1 is_target;
          minus = has_minus object file section.bytes field (first_before section.relocs at) reloc kind kinds tests.0;
          subtracted = minus_named (first_before section.relocs at);
        })

pub is_read : (object : Object) (file : FileId) (refs : List Ref) (r : Ref) → refs_of object file ≡ Ok refs → In r refs → IsRead object file r
unfolding section_refs first_fault
is_read object file refs r e h =
    let read = are_read object file refs e in
    let of = from_sections object file 1 object.sections r (subst (λ (xs : List Ref). In r xs) (sym read.all) h) in
    by of.k of.section of.there of.among (none_from place_fault object 1 object.sections of.k of.section (no_least (faults_from place_fault object 1 object.sections) read.places) of.there)
    (none_from target_fault object 1 object.sections of.k of.section (no_least (faults_from target_fault object 1 object.sections) read.targets) of.there)
  where
    by : (k : ℕ) (section : Section) → slice_get object.sections k ≡ Some section → In r (section_refs object file (1 + k) section) → faults_in place_fault object (1 + k) section ≡ [] → faults_in target_fault object (1 + k) section ≡ [] → IsRead object file r
    by k section there among placed none = with_linked (is_dropped section) refl
      where
        with_linked : (b : Bool) → is_dropped section ≡ b → IsRead object file r
        with_linked true f = absurd (rw f at among)
        with_linked false f =
            let chosen = from_filter_map (reference_at object file (1 + k) section) (range_with_len 0 (length section.relocs)) r (rw f at among) in
            read_at object file (1 + k) section chosen.0 r (numbered_so object.sections k section there) f chosen.2 (none_in place_fault object (1 + k) section chosen.0 placed f chosen.1)
            (none_in target_fault object (1 + k) section chosen.0 none f chosen.1)
