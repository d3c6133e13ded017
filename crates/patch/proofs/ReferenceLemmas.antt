-- The fields of an object's references lie apart, each in the bytes of its atom.
use Rattle.std.proofs.Common.{◌≡◌, ℕ, zero, suc, ◌+◌, ◌-◌, ◌*◌, ◌<◌, ◌≤◌, ◌^◌, ◌==◌, ◌&&◌, ◌⊎◌, not, Bool, true, false, nat_le, nat_lt, List, [], ◌∷◌, ◌++◌, length, Contains, Option, Some, None, Result, Ok, Err, inl, inr, refl, sym, ap, ◌∙◌, subst, arith, if◌then◌else◌}
use Rattle.std.specs.Prelude.{All, slice_get, slice_index_or}
use Rattle.std.specs.List.{AllByRecursion, AllPairs, filter, filter_map, list_any, range_with_len}
use Rattle.std.specs.Option.{option_map, option_map_or}
use Rattle.std.proofs.lemmas.Bool.{cases_lt, eqb-true, false≢true, leb-true, lt-ltb, ltb-true, ne_eqb}
use Rattle.std.proofs.lemmas.List.Elements.{All-contains, All-from_recursion}
use Rattle.list_lemmas.proofs.Members.{Contains_from_in, In, all_from_in, from_filter, from_filter_map, in_either, in_from_Contains}
use Rattle.atom_cut.specs.Laws.{HasItsBytes}
use Rattle.atom_cut.proofs.OwnBytes.{atoms_have_bytes}
use Rattle.atom_cut.proofs.TileLemmas.{greatest_cut}
use Rattle.mo_types.specs.AtomBytes.{atom_bytes}
use Rattle.mo_types.specs.Atoms.{atoms_from, atoms_of, cut_of, cuts, is_cut, piece, pieces, section_atoms}
use Rattle.mo_types.specs.Refs.{addend_of, has_absolute, has_authenticated, minus_of, or_fault, or_unsupported, reference, reference_at, refs_from, refs_of, section_refs, target_of}
use Rattle.mo_types.specs.RelocationRules.{faults_from, faults_in, field_at, first_fault, has_fields, is_bad_field, is_in_one_atom, least, overlap, overlaps_another, pair_fault, place_fault, row_start, section_numbered, shape_fault, target_fault}
use Rattle.mo_types.specs.Rows.{field_size, first_before, is_instruction, kind_at, last_at, when}
use Rattle.mo_types.specs.Whole.{IsWhole, IsWholeSection, is_dropped, is_strings, is_zerofill, literal_size}
use Rattle.mo_types.specs.declared.atom.Atom.{Atom}
use Rattle.mo_types.specs.declared.key.FileId.{FileId}
use Rattle.mo_types.specs.declared.object.Object.{Object}
use Rattle.mo_types.specs.declared.object.RawReloc.{RawReloc}
use Rattle.mo_types.specs.declared.object.Section.{Section}
use Rattle.mo_types.specs.declared.reference.FieldRange.{FieldRange}
use Rattle.mo_types.specs.declared.reference.Ref.{Ref}
use Rattle.mo_types.specs.declared.reference.RefKind.{RefKind}
use Rattle.mo_types.specs.declared.reference.Target.{Target}
use Rattle.mo_types.specs.declared.reference_fault.RefFault.{RefFault}
use Rattle.mo_types.specs.declared.reference_fault.RefFault.TheVariants.{BadPair, BadShape, BadPlace, BadTarget}
use Rattle.patch.proofs.ChosenLemmas.{Pairs, both, both_empty, from_mapped, from_range, from_then, from_when, in_range, in_slice, neither, no_some, none_chosen, none_passes, not_false, not_mapped, not_true, not_when, pairs_chosen, pairs_join, some_is}
use Rattle.patch.proofs.WriteLemmas.{four_at_least}

-- ---- what the rule of places leaves

no_fault : (fault : ℕ → RefFault) (found : Option ℕ) (rest : Result (List Ref) RefFault) (refs : List Ref) → or_fault fault found rest ≡ Ok refs → (found ≡ None) × (rest ≡ Ok refs)
no_fault fault None rest refs e = (refl, e)
no_fault fault (Some place) rest refs e = absurd cc

all_supported : (object : Object) (all refs : List Ref) → or_unsupported object (Ok all) ≡ Ok refs → all ≡ refs
all_supported object all refs e = by (has_absolute object) (has_authenticated object) refl refl
  where
    by : (a b : Bool) → has_absolute object ≡ a → has_authenticated object ≡ b → all ≡ refs
    by true b p q = absurd (let f = rw p at e in cc)
    by false true p q = absurd (let f = rw (p, q) at e in cc)
    by false false p q = let f = rw (p, q) at e in cc

no_least : (xs : List ℕ) → least xs ≡ None → xs ≡ []
no_least [] e = refl
no_least (x ∷ xs) e = absurd cc

-- the references are those of the sections, whose fields have good places
record AreRead (object : Object) (file : FileId) (refs : List Ref) : Type 0 where
  pub places : faults_from place_fault object 1 object.sections ≡ []
  pub all : refs_from object file 1 object.sections ≡ refs

are_read : (object : Object) (file : FileId) (refs : List Ref) → refs_of object file ≡ Ok refs → AreRead object file refs
unfolding refs_of first_fault
are_read object file refs e =
    let pair = no_fault BadPair (first_fault pair_fault object) _ refs e in
    let shape = no_fault BadShape (first_fault shape_fault object) _ refs pair.1 in
    let place = no_fault BadPlace (first_fault place_fault object) _ refs shape.1 in
    let target = no_fault BadTarget (first_fault target_fault object) _ refs place.1 in
    record { places = no_least (faults_from place_fault object 1 object.sections) place.0; all = all_supported object (refs_from object file 1 object.sections) refs target.1 }

none_in : (object : Object) (n : ℕ) (section : Section) (at : ℕ) → faults_in place_fault object n section ≡ [] → is_dropped section ≡ false → at < length section.relocs → place_fault object n section at ≡ None
unfolding faults_in
none_in object n section at none linked low =
    not_mapped _ (place_fault object n section at)
    (none_chosen (λ k. option_map (λ index. section.reloc_offset + 8 * index) (place_fault object n section k)) (range_with_len 0 (length section.relocs)) at (rw linked at none) (in_range 0 (length section.relocs) at (omega arith) (omega arith)))

-- ---- the field of a reference

record IsField (object : Object) (n : ℕ) (section : Section) (at : ℕ) (r : Ref) : Type 0 where
  pub field : FieldRange
  pub is : field_at section.relocs at ≡ Some field
  pub kind : kind_at section.relocs at ≡ Some r.kind
  pub size : field.size ≡ field_size r.kind
  pub low : field.offset < 2 ^ 31
  pub number : r.atom.section ≡ n
  pub cut : r.atom.offset ≡ cut_of object n section field.offset
  pub place : r.place ≡ field.offset - cut_of object n section field.offset

sized : (relocs : List RawReloc) (at : ℕ) (kind : RefKind) (field : FieldRange) → kind_at relocs at ≡ Some kind → field_at relocs at ≡ Some field → (field.size ≡ field_size kind) × (field.offset < 2 ^ 31)
unfolding field_at
sized relocs at kind field is e =
    let of_kind = from_then _ (kind_at relocs at) field e in
    let reloc = from_then _ (slice_get relocs at) field of_kind.2 in
    let given : FieldRange = record { offset = reloc.0.address; size = field_size of_kind.0 } in
    let found = from_when (nat_lt reloc.0.address (2 ^ 31)) given field reloc.2 in
    let same : of_kind.0 ≡ kind = some_is of_kind.0 kind (sym of_kind.1 ∙ is) in
    (ap (λ (f : FieldRange). f.size) (sym found.1) ∙ ap (λ (k : RefKind). field_size k) same, subst (λ (f : FieldRange). f.offset < 2 ^ 31) found.1 (ltb-true reloc.0.address (2 ^ 31) found.0))

field_of_ref : (object : Object) (file : FileId) (n : ℕ) (section : Section) (at : ℕ) (r : Ref) → reference_at object file n section at ≡ Some r → IsField object n section at r
unfolding reference_at
field_of_ref object file n section at r e =
    let last = from_then _ (last_at section.relocs at) r e in
    let kind = from_then _ (kind_at section.relocs at) r last.2 in
    let field = from_then _ (field_at section.relocs at) r kind.2 in
    let target = from_mapped _ (target_of object file section.bytes field.0 last.0) r field.2 in
    by last.0 kind.0 field.0 target.0 kind.1 field.1 (sized section.relocs at kind.0 field.0 kind.1 field.1) target.2
  where
    by : (reloc : RawReloc) (kind : RefKind) (field : FieldRange) (target : Target) → kind_at section.relocs at ≡ Some kind → field_at section.relocs at ≡ Some field → (field.size ≡ field_size kind) × (field.offset < 2 ^ 31)
        → ◌≡◌ {A = Ref} (record {
          atom = record { file = file; section = n; offset = cut_of object n section field.offset };
          place = field.offset - cut_of object n section field.offset;
          file_place = section.file_offset + field.offset;
          kind = kind;
          target = target;
          minus = minus_of (first_before section.relocs at);
          addend = addend_of section.bytes field (first_before section.relocs at) reloc;
        }) r
        → IsField object n section at r
    by reloc kind field target is_kind is_field sizes is =
        subst (IsField object n section at) is (record { field = field; is = is_field; kind = is_kind; size = sizes.0; low = sizes.1; number = refl; cut = refl; place = refl })

-- a field in one atom, apart from all others of its section, which has bytes
record IsGood (object : Object) (n : ℕ) (section : Section) (at : ℕ) (field : FieldRange) : Type 0 where
  pub short : field.offset + field.size ≤ section.size
  pub one : cut_of object n section (field.offset + field.size - 1) ≡ cut_of object n section field.offset
  pub alone : overlaps_another section.relocs at field ≡ false
  pub solid : is_zerofill section.kind ≡ false

good : (object : Object) (n : ℕ) (section : Section) (at : ℕ) (kind : RefKind) (field : FieldRange) → place_fault object n section at ≡ None → kind_at section.relocs at ≡ Some kind → field_at section.relocs at ≡ Some field → IsGood object n section at field
unfolding place_fault
good object n section at kind field none is its =
    let bad : is_bad_field object n section at kind field ≡ false = not_when _ (row_start section.relocs at) (rw (is, its) at none) in
    let first = neither _ _ bad in
    let second = neither _ _ first.0 in
    let third = neither _ _ second.0 in
    let within = both _ _ (not_false _ third.0) in
    let fields = both _ _ (not_false _ first.1) in
    let solid = both _ _ fields.0 in
    record {
      short = leb-true (field.offset + field.size) section.size within.0;
      one = eqb-true (cut_of object n section (field.offset + field.size - 1)) (cut_of object n section field.offset) within.1;
      alone = second.1;
      solid = not_true (is_zerofill section.kind) solid.0;
    }

-- ---- two fields

apart_of : (a b : FieldRange) → overlap a b ≡ false → (a.offset + a.size ≤ b.offset) ⊎ (b.offset + b.size ≤ a.offset)
apart_of a b e = elim (cases_lt a.offset (b.offset + b.size)) [
  | inr behind ↦ inr behind
  | inl before ↦ elim (cases_lt b.offset (a.offset + a.size)) [
    | inr after ↦ inl after
    | inl within ↦ absurd (false≢true (sym e ∙ meet (lt-ltb a.offset (b.offset + b.size) before) (lt-ltb b.offset (a.offset + a.size) within)))
  ]
]
  where
    meet : {s t : Bool} → s ≡ true → t ≡ true → (s && t) ≡ true
    meet p q = rw (p, q) refl

none_else : (relocs : List RawReloc) (at other : ℕ) (field g : FieldRange) → overlaps_another relocs at field ≡ false → other < length relocs → (other ≡ at → ⊥) → field_at relocs other ≡ Some g → overlap field g ≡ false
none_else relocs at other field g alone low differ is =
    let one = none_passes (λ k. not (k == at) && option_map_or (overlap field) (field_at relocs k) false) (range_with_len 0 (length relocs)) other alone (in_range 0 (length relocs) other (omega arith) (omega arith)) in
    let no : (other == at) ≡ false = ne_eqb other at differ in
    rw (no, is) at one

-- the fields of two references of one atom lie apart
abbrev pub LieApart : Ref → Ref → Type 0
LieApart a b = (a.atom.section ≡ b.atom.section) → (a.atom.offset ≡ b.atom.offset) → (a.place + field_size a.kind ≤ b.place) ⊎ (b.place + field_size b.kind ≤ a.place)

two_apart : (object : Object) (n : ℕ) (section : Section) (i j : ℕ) (a b : Ref) → i < j → j < length section.relocs → place_fault object n section i ≡ None → IsField object n section i a → IsField object n section j b → LieApart a b
two_apart object n section i j a b less high none p q one_section one_offset =
    let fine = good object n section i a.kind p.field none p.kind p.is in
    let apart = apart_of p.field q.field (none_else section.relocs i j p.field q.field fine.alone high (λ e. omega (arith, e, less)) q.is) in
    let first = (greatest_cut object n section p.field.offset).within in
    let second = (greatest_cut object n section q.field.offset).within in
    let same : cut_of object n section p.field.offset ≡ cut_of object n section q.field.offset = sym p.cut ∙ one_offset ∙ q.cut in
    by apart first second same
  where
    by : (p.field.offset + p.field.size ≤ q.field.offset) ⊎ (q.field.offset + q.field.size ≤ p.field.offset) → cut_of object n section p.field.offset ≤ p.field.offset → cut_of object n section q.field.offset ≤ q.field.offset → cut_of object n section p.field.offset ≡ cut_of object n section q.field.offset → (a.place + field_size a.kind ≤ b.place) ⊎ (b.place + field_size b.kind ≤ a.place)
    by (inl before) first second same = inl (omega (arith, before, first, second, same, p.place, q.place, p.size, q.size))
    by (inr after) first second same = inr (omega (arith, after, first, second, same, p.place, q.place, p.size, q.size))

section_apart : (object : Object) (file : FileId) (n : ℕ) (section : Section) → faults_in place_fault object n section ≡ [] → Pairs LieApart (section_refs object file n section)
unfolding section_refs
section_apart object file n section none = by (is_dropped section) refl
  where
    by : (b : Bool) → is_dropped section ≡ b → Pairs LieApart (if b then [] else filter_map (reference_at object file n section) (range_with_len 0 (length section.relocs)))
    by true e = tt
    by false e =
        pairs_chosen LieApart (reference_at object file n section) 0 (length section.relocs)
        (λ i j x y low less high is its. two_apart object n section i j x y less (omega arith) (none_in object n section i none e (omega arith)) (field_of_ref object file n section i x is) (field_of_ref object file n section j y its))

-- where a reference comes from
record IsFrom (object : Object) (file : FileId) (n : ℕ) (section : Section) (r : Ref) : Type 0 where
  pub at : ℕ
  pub low : at < length section.relocs
  pub linked : is_dropped section ≡ false
  pub is : IsField object n section at r

from_section : (object : Object) (file : FileId) (n : ℕ) (section : Section) (r : Ref) → In r (section_refs object file n section) → IsFrom object file n section r
unfolding section_refs
from_section object file n section r h = by (is_dropped section) refl h
  where
    by : (b : Bool) → is_dropped section ≡ b → In r (if b then [] else filter_map (reference_at object file n section) (range_with_len 0 (length section.relocs))) → IsFrom object file n section r
    by true e there = absurd there
    by false e there =
        let m = from_filter_map (reference_at object file n section) (range_with_len 0 (length section.relocs)) r there in
        let within = from_range 0 (length section.relocs) m.0 m.1 in
        record { at = m.0; low = omega (arith, within.1); linked = e; is = field_of_ref object file n section m.0 r m.2 }

record IsOf (object : Object) (file : FileId) (n : ℕ) (sections : List Section) (r : Ref) : Type 0 where
  pub k : ℕ
  pub section : Section
  pub there : slice_get sections k ≡ Some section
  pub places : faults_in place_fault object (n + k) section ≡ []
  pub from : IsFrom object file (n + k) section r

from_sections : (object : Object) (file : FileId) (n : ℕ) (sections : List Section) (r : Ref) → faults_from place_fault object n sections ≡ [] → In r (refs_from object file n sections) → IsOf object file n sections r
from_sections object file n [] r none h = absurd h
from_sections object file n (section ∷ sections) r none h =
    let empty = both_empty (faults_in place_fault object n section) (faults_from place_fault object (n + 1) sections) none in
    elim (in_either (section_refs object file n section) (refs_from object file (n + 1) sections) r h) [
      | inl here ↦
          let same : n ≡ n + 0 = omega arith in
          record {
            k = 0;
            section = section;
            there = refl;
            places = subst (λ (m : ℕ). faults_in place_fault object m section ≡ []) same empty.0;
            from = subst (λ (m : ℕ). IsFrom object file m section r) same (from_section object file n section r here);
          }
      | inr later ↦
          let rest = from_sections object file (n + 1) sections r empty.1 later in
          let k : ℕ = rest.k in
          let same : n + 1 + k ≡ n + suc k = omega arith in
          record {
            k = suc k;
            section = rest.section;
            there = rest.there;
            places = subst (λ (m : ℕ). faults_in place_fault object m rest.section ≡ []) same rest.places;
            from = subst (λ (m : ℕ). IsFrom object file m rest.section r) same rest.from;
          }
    ]

refs_apart : (object : Object) (file : FileId) (n : ℕ) (sections : List Section) → faults_from place_fault object n sections ≡ [] → Pairs LieApart (refs_from object file n sections)
refs_apart object file n [] none = tt
refs_apart object file n (section ∷ sections) none =
    let empty = both_empty (faults_in place_fault object n section) (faults_from place_fault object (n + 1) sections) none in
    pairs_join LieApart (section_refs object file n section) (refs_from object file (n + 1) sections)
    (section_apart object file n section empty.0)
    (refs_apart object file (n + 1) sections empty.1)
    (λ x y h k one_section one_offset.
    let first = (from_section object file n section x h).is.number in
    let of = from_sections object file (n + 1) sections y empty.1 k in
    let second = of.from.is.number in
    absurd (omega (arith, first, second, one_section)))

pub apart_refs : (object : Object) (file : FileId) (refs : List Ref) → refs_of object file ≡ Ok refs → Pairs LieApart refs
apart_refs object file refs e =
    let read = are_read object file refs e in
    subst (λ (rs : List Ref). Pairs LieApart rs) read.all (refs_apart object file 1 object.sections read.places)

-- ---- within the atom

-- a piece ends where its section does, or where a later one begins
abbrev EndsWell : (ℕ → Bool) → ℕ → Atom → Type 0
EndsWell test size atom =
    (atom.key.offset + atom.size ≡ size) ⊎ ((0 < atom.size) × (test (atom.key.offset + atom.size) ≡ true))

pieces_end : (test : ℕ → Bool) (file : FileId) (number : ℕ) (section : Section) (x a n : ℕ) → x < a → x ≤ section.size → (0 < n → a + n ≤ section.size) → AllByRecursion (EndsWell test section.size) (pieces file number section (x ∷ filter test (range_with_len a n)))
unfolding piece
pieces_end test file number section x a zero less low room = (inl (omega arith), tt)
pieces_end test file number section x a (suc n) less low room = by (pieces_end test file number section a (a + 1) n (omega arith) (let most = room (omega arith) in omega arith) (λ some. let most = room (omega arith) in omega arith)) (pieces_end test file number section x (a + 1) n (omega arith) low (λ some. let most = room (omega arith) in omega arith)) (test a) refl
  where
    by : AllByRecursion (EndsWell test section.size) (pieces file number section (a ∷ filter test (range_with_len (a + 1) n))) → AllByRecursion (EndsWell test section.size) (pieces file number section (x ∷ filter test (range_with_len (a + 1) n))) → (b : Bool) → test a ≡ b → AllByRecursion (EndsWell test section.size) (pieces file number section (x ∷ filter test (range_with_len a (suc n))))
    by cut past true e = rw e (inr (omega arith, let at : x + (a - x) ≡ a = omega arith in ap test at ∙ e), cut)
    by cut past false e = rw e past

section_ends : (object : Object) (file : FileId) (n : ℕ) (section : Section) → AllByRecursion (EndsWell (is_cut object n section) section.size) (section_atoms object file n section)
unfolding section_atoms cuts
section_ends object file n section = by (is_dropped section)
  where
    by : (b : Bool) → AllByRecursion (EndsWell (is_cut object n section) section.size) (if b then [] else pieces file n section (cuts object n section))
    by true = tt
    by false = pieces_end (is_cut object n section) file n section 0 1 (section.size - 1) (omega arith) (omega arith) (λ some. omega arith)

piece_numbers : (file : FileId) (n : ℕ) (section : Section) (cs : List ℕ) → AllByRecursion (λ (atom : Atom). atom.key.section ≡ n) (pieces file n section cs)
unfolding piece
piece_numbers file n section [] = tt
piece_numbers file n section (c ∷ cs) = (refl, piece_numbers file n section cs)

section_number : (object : Object) (file : FileId) (n : ℕ) (section : Section) → AllByRecursion (λ (atom : Atom). atom.key.section ≡ n) (section_atoms object file n section)
unfolding section_atoms
section_number object file n section = by (is_dropped section)
  where
    by : (b : Bool) → AllByRecursion (λ (atom : Atom). atom.key.section ≡ n) (if b then [] else pieces file n section (cuts object n section))
    by true = tt
    by false = piece_numbers file n section (cuts object n section)

all_of : {X : Type 0} (P : X → Type 0) (xs : List X) (x : X) → AllByRecursion P xs → In x xs → P x
all_of P [] x all h = absurd h
all_of P (y ∷ ys) x all (inl e) = subst P e all.0
all_of P (y ∷ ys) x all (inr h) = all_of P ys x all.1 h

-- an atom is a piece of the section of its number
record IsPieceOf (object : Object) (n : ℕ) (sections : List Section) (atom : Atom) : Type 0 where
  pub k : ℕ
  pub section : Section
  pub there : slice_get sections k ≡ Some section
  pub number : atom.key.section ≡ n + k
  pub ends : EndsWell (is_cut object (n + k) section) section.size atom

piece_of : (object : Object) (file : FileId) (n : ℕ) (sections : List Section) (atom : Atom) → In atom (atoms_from object file n sections) → IsPieceOf object n sections atom
piece_of object file n [] atom h = absurd h
piece_of object file n (section ∷ sections) atom h = elim (in_either (section_atoms object file n section) (atoms_from object file (n + 1) sections) atom h) [
  | inl here ↦
      let same : n ≡ n + 0 = omega arith in
      record {
        k = 0;
        section = section;
        there = refl;
        number = all_of (λ (a : Atom). a.key.section ≡ n) (section_atoms object file n section) atom (section_number object file n section) here ∙ same;
        ends = subst (λ (m : ℕ). EndsWell (is_cut object m section) section.size atom) same (all_of (EndsWell (is_cut object n section) section.size) (section_atoms object file n section) atom (section_ends object file n section) here);
      }
  | inr later ↦
      let rest = piece_of object file (n + 1) sections atom later in
      let k : ℕ = rest.k in
      let same : n + 1 + k ≡ n + suc k = omega arith in
      record {
        k = suc k;
        section = rest.section;
        there = rest.there;
        number = rest.number ∙ same;
        ends = subst (λ (m : ℕ). EndsWell (is_cut object m rest.section) rest.section.size atom) same rest.ends;
      }
]

-- the field of a reference of an atom ends within it
ends_within : (object : Object) (n : ℕ) (section : Section) (at : ℕ) (r : Ref) (atom : Atom) → IsField object n section at r → place_fault object n section at ≡ None → r.atom.offset ≡ atom.key.offset → EndsWell (is_cut object n section) section.size atom → (r.place + field_size r.kind ≤ atom.size) × (is_zerofill section.kind ≡ false)
ends_within object n section at r atom p none same ends =
    let fine = good object n section at r.kind p.field none p.kind p.is in
    let four = four_at_least r.kind in
    let last = greatest_cut object n section (p.field.offset + p.field.size - 1) in
    let low = (greatest_cut object n section p.field.offset).within in
    let short = fine.short in
    let one = fine.one in
    let begins : cut_of object n section p.field.offset ≡ atom.key.offset = sym p.cut ∙ same in
    (by ends (last.above_all) one begins low short four, fine.solid)
  where
    by : EndsWell (is_cut object n section) section.size atom → ((k : ℕ) → is_cut object n section k ≡ true → k ≤ p.field.offset + p.field.size - 1 → k ≤ cut_of object n section (p.field.offset + p.field.size - 1)) → cut_of object n section (p.field.offset + p.field.size - 1) ≡ cut_of object n section p.field.offset → cut_of object n section p.field.offset ≡ atom.key.offset → cut_of object n section p.field.offset ≤ p.field.offset → p.field.offset + p.field.size ≤ section.size → 4 ≤ field_size r.kind → r.place + field_size r.kind ≤ atom.size
    by (inl whole) above one begins low short four = omega (arith, whole, begins, low, short, p.place, p.size)
    by (inr (some, cut)) above one begins low short four = elim (cases_lt (p.field.offset + p.field.size - 1) (atom.key.offset + atom.size)) [
      | inl past ↦ omega (arith, past, begins, low, four, p.place, p.size)
      | inr within ↦ let most = above (atom.key.offset + atom.size) cut within in absurd (omega (arith, most, one, begins, some))
    ]

numbered_slice : (sections : List Section) (k : ℕ) (section : Section) → slice_get sections k ≡ Some section → section_numbered sections (1 + k) ≡ Some section
numbered_slice sections k section is =
    let apart : (1 + k == 0) ≡ false = ne_eqb (1 + k) 0 (λ e. omega (arith, e)) in
    let back : 1 + k - 1 ≡ k = omega arith in
    rw (apart, back) is

solid_length : (b : Bool) (n size : ℕ) → b ≡ false → n ≡ (if b then 0 else size) → n ≡ size
solid_length true n size e is = absurd (false≢true (sym e))
solid_length false n size e is = is

pub within_atom : (object : Object) (file : FileId) (refs : List Ref) (atom : Atom) (r : Ref) → IsWhole object → refs_of object file ≡ Ok refs → In atom (atoms_of object file) → In r refs → r.atom.section ≡ atom.key.section → r.atom.offset ≡ atom.key.offset → r.place + field_size r.kind ≤ length (atom_bytes object atom)
unfolding atoms_of
within_atom object file refs atom r whole e h among one_section one_offset =
    let read = are_read object file refs e in
    let of = from_sections object file 1 object.sections r read.places (subst (λ (rs : List Ref). In r rs) (sym read.all) among) in
    let piece = piece_of object file 1 object.sections atom h in
    let has : HasItsBytes object atom = All-contains (HasItsBytes object) (atoms_of object file) atom (atoms_have_bytes object file whole) (Contains_from_in (atoms_of object file) atom h) in
    let number : 1 + of.k ≡ 1 + piece.k = sym of.from.is.number ∙ one_section ∙ piece.number in
    let place : of.k ≡ piece.k = omega (arith, number) in
    let there : slice_get object.sections of.k ≡ Some piece.section = subst (λ (k : ℕ). slice_get object.sections k ≡ Some piece.section) (sym place) piece.there in
    let same : piece.section ≡ of.section = some_is piece.section of.section (sym there ∙ of.there) in
    let ends : EndsWell (is_cut object (1 + of.k) of.section) of.section.size atom =
    subst (λ (s : Section). EndsWell (is_cut object (1 + of.k) s) s.size atom) same (subst (λ (m : ℕ). EndsWell (is_cut object m piece.section) piece.section.size atom) (sym number) piece.ends) in
    let within = ends_within object (1 + of.k) of.section of.from.at r atom of.from.is (none_in object (1 + of.k) of.section of.from.at of.places of.from.linked of.from.low) one_offset ends in
    let here : section_numbered object.sections atom.key.section ≡ Some of.section = subst (λ (m : ℕ). section_numbered object.sections m ≡ Some of.section) (sym of.from.is.number ∙ one_section) (numbered_slice object.sections of.k of.section of.there) in
    let own : of.section ≡ has.section = some_is of.section has.section (sym here ∙ has.numbered) in
    let long : length (atom_bytes object atom) ≡ atom.size = solid_length (is_zerofill has.section.kind) (length (atom_bytes object atom)) atom.size (subst (λ (s : Section). is_zerofill s.kind ≡ false) own within.1) has.bytes in
    omega (arith, within.0, long)

-- ---- offsets are low

pub low_offset : (object : Object) (file : FileId) (refs : List Ref) (r : Ref) → refs_of object file ≡ Ok refs → In r refs → r.atom.offset < 2 ^ 31
low_offset object file refs r e among =
    let read = are_read object file refs e in
    let of = from_sections object file 1 object.sections r read.places (subst (λ (rs : List Ref). In r rs) (sym read.all) among) in
    let n : ℕ = 1 + of.k in
    let field : FieldRange = of.from.is.field in
    let within = (greatest_cut object n of.section field.offset).within in
    let low = of.from.is.low in
    omega (arith, within, low, of.from.is.cut)

pub atom_low : (object : Object) (file : FileId) (atom : Atom) → IsWhole object → In atom (atoms_of object file) → atom.key.offset < 2 ^ 63
atom_low object file atom whole h =
    let has : HasItsBytes object atom = All-contains (HasItsBytes object) (atoms_of object file) atom (atoms_have_bytes object file whole) (Contains_from_in (atoms_of object file) atom h) in
    let section : Section = has.section in
    let there : In section object.sections = numbered_in object.sections atom.key.section section has.numbered in
    let one : IsWholeSection section = All-contains IsWholeSection object.sections section whole.sections (Contains_from_in object.sections section there) in
    let small = one.addresses in
    let within = has.within in
    omega (arith, small, within)
  where
    numbered_in : (sections : List Section) (number : ℕ) (section : Section) → section_numbered sections number ≡ Some section → In section sections
    numbered_in sections zero section is = no_some section is
    numbered_in sections (suc k) section is =
        let above : (suc k == 0) ≡ false = ne_eqb (suc k) 0 (λ e. omega (arith, e)) in
        in_slice sections (suc k - 1) section (rw above at is)
