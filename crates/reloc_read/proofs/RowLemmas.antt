-- What the row that ends at a place says.
use Rattle.std.proofs.Common.{◌≡◌, ℕ, ◌+◌, ◌-◌, ◌^◌, ◌<◌, ltb, ◌≤◌, ◌&&◌, List, Bool, true, false, not, Option, Some, None, slice_get, if◌then◌else◌, refl, sym, ap, ◌∙◌}
use Rattle.std.specs.Option.{option_and_then, option_map_or}
use Rattle.std.proofs.lemmas.Bool.{le-ltb, lt-ltb}
use Rattle.mo_types.specs.declared.object.RawReloc.{RawReloc}
use Rattle.mo_types.specs.declared.reference.FieldRange.{FieldRange}
use Rattle.mo_types.specs.declared.reference.RefKind.{RefKind}
use Rattle.mo_types.specs.RelocationRules.{field_at, is_bad_field, is_bad_target, pair_fault, place_fault, row_start, shape_fault, target_fault}
use Rattle.mo_types.specs.Rows.{field_size, first_before, is_authenticated, is_first, is_subtractor, kind_at, kind_of, last_at, when}
use Rattle.mo_types.specs.declared.key.FileId.{FileId}
use Rattle.mo_types.specs.declared.object.Object.{Object}
use Rattle.mo_types.specs.declared.object.Section.{Section}
use Rattle.mo_types.specs.declared.reference.Ref.{Ref}
use Rattle.mo_types.specs.Atoms.{cut_of}
use Rattle.mo_types.specs.Refs.{reference, reference_at}
use Rattle.reloc_read.specs.Faults.{place_of, row_faults}
use Rattle.reloc_read.proofs.NoFaultLemmas.{field_fits, target_is_good}
use Rattle.reloc_read.specs.declared.rows.RelocRow.{RelocRow}
use Rattle.reloc_read.specs.Fields.{IsSmall}
use Rattle.reloc_read.specs.declared.linked_section.LinkedSection.{LinkedSection}
use Rattle.reloc_read.specs.RelocRow.{IsRow, field_cut}

kept : (test : Bool) (x y : RawReloc) → when test x ≡ Some y → (test ≡ true) × (x ≡ y)
kept true x y e = (refl, cc)
kept false x y e = cc

neither : (a b : Bool) → (not a && not b) ≡ true → a ≡ false
neither false b e = refl
neither true b e = sym e

-- what ends a row isn't the first of two
ends : (found : Option RawReloc) (last : RawReloc) → option_and_then (λ reloc. when (not (is_first reloc) && not (is_authenticated reloc)) reloc) found ≡ Some last → (found ≡ Some last) × (is_first last ≡ false)
ends None last e = cc
ends (Some x) last e =
    let there : ((not (is_first x) && not (is_authenticated x)) ≡ true) × (x ≡ last) = kept (not (is_first x) && not (is_authenticated x)) x last e in
    (ap Some there.1, ap is_first (sym there.1) ∙ neither (is_first x) (is_authenticated x) there.0)

kind_is : (relocs : List RawReloc) (at : ℕ) (first : Option RawReloc) (last : RawReloc) (kind : Option RefKind) → last_at relocs at ≡ Some last → first ≡ first_before relocs at → kind ≡ kind_of first last → kind_at relocs at ≡ kind
unfolding kind_at
kind_is relocs at first last kind is before e = rw (is, ← before) (sym e)

field_is : (relocs : List RawReloc) (at : ℕ) (last : RawReloc) (kind : RefKind) → last_at relocs at ≡ Some last → kind_at relocs at ≡ Some kind → field_at relocs at ≡ when (ltb last.address (2 ^ 31)) (record { offset = last.address; size = field_size kind })
unfolding field_at
field_is relocs at last kind is e =
    let there : slice_get relocs at ≡ Some last = (ends (slice_get relocs at) last is).0 in
    rw (e, there) refl

pub no_last : (relocs : List RawReloc) (at : ℕ) → last_at relocs at ≡ None → field_at relocs at ≡ None
unfolding field_at kind_at
no_last relocs at none = rw none refl

pub no_kind : (relocs : List RawReloc) (at : ℕ) (first : Option RawReloc) (last : RawReloc) → last_at relocs at ≡ Some last → first ≡ first_before relocs at → kind_of first last ≡ None → field_at relocs at ≡ None
unfolding field_at
no_kind relocs at first last is before none = rw (kind_is relocs at first last None is before (sym none)) refl

pub below_start : (relocs : List RawReloc) (at : ℕ) (first : Option RawReloc) (last : RawReloc) (kind : RefKind) → last_at relocs at ≡ Some last → first ≡ first_before relocs at → kind_of first last ≡ Some kind → 2 ^ 31 ≤ last.address → field_at relocs at ≡ None
below_start relocs at first last kind is before e high =
    let far : ltb last.address (2 ^ 31) ≡ false = le-ltb last.address (2 ^ 31) high in
    field_is relocs at last kind is (kind_is relocs at first last (Some kind) is before (sym e)) ∙ rw far refl

pub whole_row : (relocs : List RawReloc) (at : ℕ) (field : FieldRange) (first : Option RawReloc) (last : RawReloc) (kind : RefKind) → last_at relocs at ≡ Some last → first ≡ first_before relocs at → kind_of first last ≡ Some kind → last.address < 2 ^ 31 → field.offset ≡ last.address → field.size ≡ field_size kind → IsSmall field → IsRow relocs at (record { field = field; first = first; last = last; kind = kind })
whole_row relocs at field first last kind is before e low offset size small =
    let its : kind_at relocs at ≡ Some kind = kind_is relocs at first last (Some kind) is before (sym e) in
    let near : ltb last.address (2 ^ 31) ≡ true = lt-ltb last.address (2 ^ 31) low in
    record {
      kind = its;
      field = field_is relocs at last kind is its ∙ rw (near, ← offset, ← size) refl;
      first = sym before;
      last = is;
      small = small;
    }

pub ruleset reads = (no_last, no_kind, below_start)

-- its field

pub field_read : (relocs : List RawReloc) (at : ℕ) (row : RelocRow) → IsRow relocs at row → field_at relocs at ≡ Some row.field
field_read relocs at row is = is.field

pub field_small : (relocs : List RawReloc) (at : ℕ) (row : RelocRow) → IsRow relocs at row → IsSmall row.field
field_small relocs at row is = is.small

pub ruleset fields = (field_read, field_small)

-- its place

-- what is where a test fails
unless_some : {A : Type 0} (test : Bool) (x : A) → None ≡ when (not test) x → test ≡ true
unless_some true x e = refl
unless_some false x e = cc

unless_none : {A : Type 0} (test : Bool) (x y : A) → Some y ≡ when (not test) x → (test ≡ false) × (y ≡ x)
unless_none true x y e = cc
unless_none false x y e = (refl, cc)

pub bad_place : (linked : LinkedSection) (at : ℕ) (row : RelocRow) (start : ℕ) → IsRow linked.section.now.relocs at row → None ≡ field_cut linked at row → start ≡ row_start linked.section.now.relocs at → Some start ≡ place_fault linked.cut.object.now (linked.index + 1) linked.section.now at
unfolding place_fault
bad_place linked at row start is none e =
    let bad : is_bad_field linked.cut.object.now (linked.index + 1) linked.section.now at row.kind row.field ≡ true = unless_some _ _ none in
    rw (is.kind, is.field, bad) (ap Some e)

pub good_place : (linked : LinkedSection) (at : ℕ) (row : RelocRow) (cut : ℕ) → IsRow linked.section.now.relocs at row → Some cut ≡ field_cut linked at row → None ≡ place_fault linked.cut.object.now (linked.index + 1) linked.section.now at
unfolding place_fault
good_place linked at row cut is some =
    let good : is_bad_field linked.cut.object.now (linked.index + 1) linked.section.now at row.kind row.field ≡ false = (unless_none _ _ _ some).0 in
    rw (is.kind, is.field, good) refl

pub ruleset places = (field_read, field_small, bad_place, good_place)

-- what it names

abbrev is_bad_minus : Object → List ℕ → RelocRow → Bool
is_bad_minus object bytes row = option_map_or (λ first. is_subtractor first && is_bad_target object bytes row.field first) row.first false

target_is : (object : Object) (number : ℕ) (section : Section) (at : ℕ) (row : RelocRow) → IsRow section.relocs at row → target_fault object number section at ≡ (if is_bad_minus object section.bytes row then Some (at - 1) else when (is_bad_target object section.bytes row.field row.last) at)
unfolding target_fault
target_is object number section at row is = rw (is.field, is.last, is.first) refl

pub bad_minus : (object : Object) (number : ℕ) (section : Section) (at before : ℕ) (row : RelocRow) (minus : Bool) → IsRow section.relocs at row → minus ≡ is_bad_minus object section.bytes row → minus ≡ true → before ≡ at - 1 → Some before ≡ target_fault object number section at
bad_minus object number section at before row minus is e bad less = sym (target_is object number section at row is ∙ rw (← e, bad, less) refl)

pub bad_target : (object : Object) (number : ℕ) (section : Section) (at : ℕ) (row : RelocRow) (minus last : Bool) → IsRow section.relocs at row → minus ≡ is_bad_minus object section.bytes row → minus ≡ false → last ≡ is_bad_target object section.bytes row.field row.last → last ≡ true → Some at ≡ target_fault object number section at
bad_target object number section at row minus last is e good f bad = sym (target_is object number section at row is ∙ rw (← e, good, ← f, bad) refl)

pub good_target : (object : Object) (number : ℕ) (section : Section) (at : ℕ) (row : RelocRow) (minus last : Bool) → IsRow section.relocs at row → minus ≡ is_bad_minus object section.bytes row → minus ≡ false → last ≡ is_bad_target object section.bytes row.field row.last → last ≡ false → None ≡ target_fault object number section at
good_target object number section at row minus last is e good f fine = sym (target_is object number section at row is ∙ rw (← e, good, ← f, fine) refl)

-- the rules that a row keeps, and those that a place keeps at which none with a field ends

no_pair_fault : (object : Object) (number : ℕ) (section : Section) (at : ℕ) (row : RelocRow) → IsRow section.relocs at row → pair_fault object number section at ≡ None
unfolding pair_fault
no_pair_fault object number section at row is =
    let there : (slice_get section.relocs at ≡ Some row.last) × (is_first row.last ≡ false) = ends (slice_get section.relocs at) row.last is.last in
    rw (there.0, there.1) refl

no_shape_fault : (object : Object) (number : ℕ) (section : Section) (at : ℕ) (row : RelocRow) → IsRow section.relocs at row → shape_fault object number section at ≡ None
unfolding shape_fault
no_shape_fault object number section at row is = rw (is.last, is.kind) refl

no_target_fault : (object : Object) (number : ℕ) (section : Section) (at : ℕ) → field_at section.relocs at ≡ None → target_fault object number section at ≡ None
unfolding target_fault
no_target_fault object number section at none = rw none refl

pub faults_of_row : (object : Object) (number : ℕ) (section : Section) (at : ℕ) (row : RelocRow) (place target : Option ℕ) → IsRow section.relocs at row → place ≡ place_of section (place_fault object number section at) → target ≡ place_of section (target_fault object number section at) → record { pair = None; shape = None; place = place; target = target } ≡ row_faults object number section at
faults_of_row object number section at row place target is e f = rw (no_pair_fault object number section at row is, no_shape_fault object number section at row is, e, f) refl

pub faults_of_none : (object : Object) (number : ℕ) (section : Section) (at : ℕ) (pair shape place : Option ℕ) → field_at section.relocs at ≡ None → pair ≡ place_of section (pair_fault object number section at) → shape ≡ place_of section (shape_fault object number section at) → place ≡ place_of section (place_fault object number section at) → record { pair = pair; shape = shape; place = place; target = None } ≡ row_faults object number section at
faults_of_none object number section at pair shape place none e f g = rw (no_target_fault object number section at none, e, f, g) refl

pub ruleset faults = (faults_of_row, faults_of_none)

-- its reference

if_each_none : {A B : Type 0} (f : A → Option B) (found : Option A) → ((x : A) → f x ≡ None) → option_and_then f found ≡ None
if_each_none f None each = refl
if_each_none f (Some x) each = each x

pub no_reference : (object : Object) (file : FileId) (number : ℕ) (section : Section) (at : ℕ) → field_at section.relocs at ≡ None → None ≡ reference_at object file number section at
unfolding reference_at
no_reference object file number section at none =
    rw none (sym (if_each_none (λ reloc. option_and_then (λ kind. None) (kind_at section.relocs at)) (last_at section.relocs at) (λ reloc. if_each_none (λ kind. None) (kind_at section.relocs at) (λ kind. refl))))

pub row_reference : (object : Object) (file : FileId) (number : ℕ) (section : Section) (at : ℕ) (row : RelocRow) (found : Option Ref) → IsRow section.relocs at row → found ≡ reference object file number section row.first row.last row.kind row.field → found ≡ reference_at object file number section at
unfolding reference_at
row_reference object file number section at row found is e = rw (is.last, is.kind, is.field, is.first) e

pub row_fits : (object : Object) (number : ℕ) (section : Section) (at : ℕ) (row : RelocRow) → IsRow section.relocs at row → place_fault object number section at ≡ None → row.field.offset + row.field.size ≤ section.size
row_fits object number section at row is none = field_fits object number section at row.kind row.field none is.kind is.field

pub row_leads : (object : Object) (number : ℕ) (section : Section) (at : ℕ) (row : RelocRow) → IsRow section.relocs at row → target_fault object number section at ≡ None → is_bad_target object section.bytes row.field row.last ≡ false
row_leads object number section at row is none = target_is_good object number section at row.last row.field none is.last is.field

-- what keeps the rules is in one atom, fits, and leads where it may
pub cut_fits : (linked : LinkedSection) (at : ℕ) (row : RelocRow) (cut : ℕ) → Some cut ≡ field_cut linked at row → IsRow linked.section.now.relocs at row → row.field.offset + row.field.size ≤ linked.section.now.size
cut_fits linked at row cut some is = row_fits linked.cut.object.now (linked.index + 1) linked.section.now at row is (sym (good_place linked at row cut is some))

pub cut_is : (linked : LinkedSection) (at : ℕ) (row : RelocRow) (cut : ℕ) → Some cut ≡ field_cut linked at row → cut ≡ cut_of linked.cut.object.now (linked.index + 1) linked.section.now row.field.offset
cut_is linked at row cut some = (unless_none _ _ _ some).1

pub no_cut : (linked : LinkedSection) (at : ℕ) (row : RelocRow) → None ≡ field_cut linked at row → IsRow linked.section.now.relocs at row → place_fault linked.cut.object.now (linked.index + 1) linked.section.now at ≡ None → ⊥
no_cut linked at row none is good =
    let bad : Some (row_start linked.section.now.relocs at) ≡ place_fault linked.cut.object.now (linked.index + 1) linked.section.now at = bad_place linked at row _ is none refl in
    cc

pub ruleset references = (field_small, row_leads, cut_fits, cut_is)
