-- What holds of the entries of an object, and of the fault for which it is refused.
use Rattle.std.proofs.Common.{◌≡◌, ◌≢◌, ℕ, zero, suc, ◌+◌, ◌<◌, ◌≤◌, ◌++◌, ◌∷◌, [], ◌&&◌, ◌⊎◌, inl, inr, min, List, length, All, get_or, slice_get, Bool, true, false, not, eqb, Option, Some, None, Result, Ok, Err, refl, sym, ap, ◌∙◌, subst, arith, if◌then◌else◌}
use Rattle.std.specs.List.{AllPairs, cons_option, filter_map, flat_map, range_with_len}
use Rattle.std.specs.Option.{option_and_then, option_map, option_map_or}
use Rattle.std.proofs.lemmas.Bool.{and_from, and_parts, cases_Bool, cases_lt, eq-eqb, eqb-false, false≢true, lt-ltb, ne_eqb, not-true, not_from_false}
use Rattle.std.proofs.lemmas.List.Elements.{All-from_recursion}
use Rattle.std.proofs.lemmas.Option.{option_and_then_some, slice_get_within}
use Rattle.list_lemmas.proofs.Members.{In, Contains_from_in, all_from_in, any_true, from_filter_map, from_flat, in_either, in_filter_map, in_flat, in_from_Contains, in_left, in_right}
use Rattle.mo_types.specs.declared.key.AtomKey.{AtomKey}
use Rattle.mo_types.specs.declared.key.FileId.{FileId}
use Rattle.mo_types.specs.declared.object.Object.{Object}
use Rattle.mo_types.specs.declared.object.Section.{Section}
use Rattle.mo_types.specs.declared.unwind.Unwind.{Unwind}
use Rattle.mo_types.specs.RelocationRules.{least}
use Rattle.mo_types.specs.Rows.{when}
use Rattle.reloc_read.proofs.ScanLemmas.{any_in_range}
use Rattle.unwind_read.specs.declared.fault.UnwindFault.{UnwindFault}
use Rattle.unwind_read.specs.declared.fault.UnwindFault.TheVariants.{BadEntry}
use Rattle.unwind_read.specs.declared.spans.Span.{Span}
use Rattle.unwind_read.specs.declared.spots.Spot.{Spot}
use Rattle.unwind_read.specs.Laws.{AreApart, IsAtFault, IsBroken, IsInAtom, IsLeastFault, IsOverlapping}
use Rattle.unwind_read.specs.Overlaps.{overlap, overlap_at, overlap_faults, overlaps_another}
use Rattle.unwind_read.specs.Rules.{UnwindRule, entry_at, entry_count, entry_place, entry_relocs, faults_of, has_entries, section_faults, section_rules}
use Rattle.unwind_read.specs.Unwinds.{first_fault, kept_function, section_spans, section_unwinds, span_at, span_with, spans_of, unwind_at, unwind_with, unwinds_of}
use Rattle.unwind_read.proofs.LeastLemmas.{least_empty}
use Rattle.unwind_read.proofs.PartLemmas.{Part, entry_in_atom, in_range, kept_part, no_some, some_is}

-- ---- what an answer tells

abbrev given : List Unwind → Result (List Unwind) UnwindFault
given entries = Ok entries

abbrev refusal : ℕ → Result (List Unwind) UnwindFault
refusal place = Err (BadEntry place)

same_entries : (x y : List Unwind) → given x ≡ given y → x ≡ y
same_entries x y e = cc

same_place : (p q : ℕ) → refusal p ≡ refusal q → p ≡ q
same_place p q e = cc

one_answer : {Y : Type 0} (p : ℕ) (x : List Unwind) → refusal p ≡ given x → Y
one_answer p x e = absurd cc

record Answered (object : Object) (file : FileId) (entries : List Unwind) : Type 0 where
  none : first_fault object ≡ None
  these : flat_map (section_unwinds object file) object.sections ≡ entries

answered : (object : Object) (file : FileId) (entries : List Unwind) → unwinds_of object file ≡ Ok entries → Answered object file entries
unfolding unwinds_of
answered object file entries e = by (first_fault object) refl e
  where
    by : (o : Option ℕ) → first_fault object ≡ o → option_map_or refusal o (given (flat_map (section_unwinds object file) object.sections)) ≡ given entries → Answered object file entries
    by None none is = record { none = none; these = same_entries (flat_map (section_unwinds object file) object.sections) entries is }
    by (Some place) some is = one_answer place entries is

refused : (object : Object) (file : FileId) (place : ℕ) → unwinds_of object file ≡ Err (BadEntry place) → first_fault object ≡ Some place
unfolding unwinds_of
refused object file place e = by (first_fault object) e
  where
    by : (o : Option ℕ) → option_map_or refusal o (given (flat_map (section_unwinds object file) object.sections)) ≡ refusal place → o ≡ Some place
    by None is = one_answer place (flat_map (section_unwinds object file) object.sections) (sym is)
    by (Some at) is = ap Some (same_place at place is)

-- ---- entries lie in atoms

of_section : (object : Object) (file : FileId) (section : Section) (entry : Unwind) → In entry (section_unwinds object file section) → IsInAtom object file entry
unfolding section_unwinds
of_section object file section entry h = by (has_entries section) h
  where
    by : (b : Bool) → In entry (if b then filter_map (unwind_at object file section) (range_with_len 0 (entry_count section)) else []) → IsInAtom object file entry
    by true there = let it = from_filter_map (unwind_at object file section) (range_with_len 0 (entry_count section)) entry there in entry_in_atom object file section it.0 entry it.2
    by false there = absurd there

pub in_atoms : (object : Object) (file : FileId) (entries : List Unwind) → unwinds_of object file ≡ Ok entries → All (IsInAtom object file) entries
in_atoms object file entries e =
    let is : Answered object file entries = answered object file entries e in
    All-from_recursion (IsInAtom object file) entries (all_from_in (IsInAtom object file) entries (λ entry h.
    let it = from_flat (section_unwinds object file) object.sections entry (subst (In entry) (sym is.these) h) in of_section object file it.0 entry it.2))

-- ---- the ranges of entries are their spans

abbrev pub SameRange : Unwind → Span → Type 0
SameRange entry span = (span.section ≡ entry.atom.section) × (span.from ≡ entry.atom.offset + entry.offset) × (span.to ≡ span.from + entry.length)

abbrev pub Match : List Unwind → List Span → Type 0
Match [] [] = Unit {0}
Match [] (s ∷ ss) = ⊥
Match (e ∷ es) [] = ⊥
Match (e ∷ es) (s ∷ ss) = SameRange e s × Match es ss

match_append : (es fs : List Unwind) (ss ts : List Span) → Match es ss → Match fs ts → Match (es ++ fs) (ss ++ ts)
match_append [] fs [] ts first second = second
match_append [] fs (s ∷ ss) ts first second = absurd first
match_append (e ∷ es) fs [] ts first second = absurd first
match_append (e ∷ es) fs (s ∷ ss) ts first second = (first.0, match_append es fs ss ts first.1 second)

match_one : (object : Object) (file : FileId) (section : Section) (i : ℕ) (o : Option Spot) (es : List Unwind) (ss : List Span) → kept_function object (entry_at section i) (entry_relocs section i) ≡ o → Match es ss → Match (cons_option (option_map (unwind_with object file (entry_at section i) (entry_relocs section i)) o) es) (cons_option (option_map (span_with (entry_place section i) (entry_at section i)) o) ss)
match_one object file section i None es ss has rest = rest
match_one object file section i (Some spot) es ss has rest =
    let part : Part object file spot = (kept_part object file (entry_at section i) (entry_relocs section i) spot has).0 in
    let low : spot.start ≤ spot.offset = part.low in
    ((refl, omega arith, refl), rest)

match_range : (object : Object) (file : FileId) (section : Section) (ks : List ℕ) → Match (filter_map (unwind_at object file section) ks) (filter_map (span_at object section) ks)
unfolding unwind_at span_at
match_range object file section [] = tt
match_range object file section (k ∷ ks) =
    match_one object file section k (kept_function object (entry_at section k) (entry_relocs section k)) (filter_map (unwind_at object file section) ks) (filter_map (span_at object section) ks) refl (match_range object file section ks)

match_section : (object : Object) (file : FileId) (section : Section) → Match (section_unwinds object file section) (section_spans object section)
unfolding section_unwinds section_spans
match_section object file section = by (has_entries section)
  where
    by : (b : Bool) → Match (if b then filter_map (unwind_at object file section) (range_with_len 0 (entry_count section)) else []) (if b then filter_map (span_at object section) (range_with_len 0 (entry_count section)) else [])
    by true = match_range object file section (range_with_len 0 (entry_count section))
    by false = tt

pub match_all : (object : Object) (file : FileId) (sections : List Section) → Match (flat_map (section_unwinds object file) sections) (flat_map (section_spans object) sections)
match_all object file [] = tt
match_all object file (section ∷ sections) =
    match_append (section_unwinds object file section) (flat_map (section_unwinds object file) sections) (section_spans object section) (flat_map (section_spans object) sections) (match_section object file section) (match_all object file sections)

pub record SpanOf (es : List Unwind) (ss : List Span) (k : ℕ) (d : Unwind) : Type 0 where
  pub span : Span
  pub there : slice_get ss k ≡ Some span
  pub same : SameRange (get_or es k d) span

pub span_of : (es : List Unwind) (ss : List Span) (k : ℕ) (d : Unwind) → Match es ss → k < length es → SpanOf es ss k d
span_of [] ss k d match low = absurd (omega arith)
span_of (e ∷ es) [] k d match low = absurd match
span_of (e ∷ es) (s ∷ ss) zero d match low = record { span = s; there = refl; same = match.0 }
span_of (e ∷ es) (s ∷ ss) (suc k) d match low = let rest : SpanOf es ss k d = span_of es ss k d match.1 (omega arith) in record { span = rest.span; there = rest.there; same = rest.same }

-- ---- ranges that overlap are told of

pub told_in : (spans : List Span) (i j : ℕ) (a b : Span) → i ≢ j → slice_get spans i ≡ Some a → slice_get spans j ≡ Some b → overlap a b ≡ true → In a.place (overlap_faults spans)
unfolding overlap_faults
told_in spans i j a b apart here there common =
    let inside : i < length spans = slice_get_within spans i a here in
    let within : j < length spans = slice_get_within spans j b there in
    let test : option_map_or (overlap a) (slice_get spans j) false ≡ true = ap (λ (o : Option Span). option_map_or (overlap a) o false) there ∙ common in
    let differs : not (eqb j i) ≡ true = not_from_false (eqb j i) (ne_eqb j i (λ e. apart (sym e))) in
    let another : overlaps_another spans i a ≡ true =
    any_in_range (λ other. not (eqb other i) && option_map_or (overlap a) (slice_get spans other) false) 0 (length spans) j (omega arith) (omega arith) (and_from _ _ differs test) in
    let told : overlap_at spans i ≡ Some a.place = ap (option_and_then (λ span. when (overlaps_another spans i span) span.place)) here ∙ ap (λ (t : Bool). when t a.place) another in
    in_filter_map (overlap_at spans) (range_with_len 0 (length spans)) i a.place (in_range 0 (length spans) i (omega arith) (omega arith)) told

right_empty : (xs ys : List ℕ) → xs ++ ys ≡ [] → ys ≡ []
right_empty [] ys e = e
right_empty (x ∷ xs) ys e = absurd cc

no_overlaps : (object : Object) → first_fault object ≡ None → overlap_faults (spans_of object) ≡ []
unfolding first_fault
no_overlaps object e = right_empty (flat_map (section_faults object) object.sections) (overlap_faults (spans_of object)) (least_empty (flat_map (section_faults object) object.sections ++ overlap_faults (spans_of object)) e)

apart_at : (spans : List Span) (i j : ℕ) (a b : Span) → overlap_faults spans ≡ [] → i ≢ j → slice_get spans i ≡ Some a → slice_get spans j ≡ Some b → overlap a b ≡ false
apart_at spans i j a b none apart here there = elim (cases_Bool (overlap a b)) [
  | inl common ↦ absurd (subst (In a.place) none (told_in spans i j a b apart here there common))
  | inr away ↦ away
]

-- ranges of one section without a common offset
beside : (a b : Span) → a.section ≡ b.section → overlap a b ≡ false → (a.to ≤ b.from) ⊎ (b.to ≤ a.from)
beside a b same away = elim (cases_lt a.from b.to) [
  | inl first ↦ elim (cases_lt b.from a.to) [
    | inl second ↦ absurd (false≢true (sym away ∙ and_from _ _ (and_from _ _ (eq-eqb a.section b.section same) (lt-ltb a.from b.to first)) (lt-ltb b.from a.to second)))
    | inr past ↦ inl (omega arith)
  ]
  | inr past ↦ inr (omega arith)
]

ranges_apart : (a b : Unwind) (s t : Span) → SameRange a s → SameRange b t → overlap s t ≡ false → AreApart a b
ranges_apart a b s t first second away = λ same.
    let section : a.atom.section ≡ b.atom.section = ap (λ (k : AtomKey). k.section) same in
    let start : a.atom.offset ≡ b.atom.offset = ap (λ (k : AtomKey). k.offset) same in
    let here : s.from ≡ a.atom.offset + a.offset = first.1 in
    let there : t.from ≡ b.atom.offset + b.offset = second.1 in
    let end : s.to ≡ s.from + a.length = first.2 in
    let stop : t.to ≡ t.from + b.length = second.2 in
    elim (beside s t (first.0 ∙ section ∙ sym second.0) away) [
      | inl before ↦ inl (omega arith)
      | inr behind ↦ inr (omega arith)
    ]

pub are_apart : (object : Object) (file : FileId) (entries : List Unwind) → unwinds_of object file ≡ Ok entries → AllPairs AreApart entries
are_apart object file entries e = λ i j d less low.
    let is : Answered object file entries = answered object file entries e in
    let match : Match entries (spans_of object) = subst (λ (es : List Unwind). Match es (spans_of object)) is.these (match_all object file object.sections) in
    let first : SpanOf entries (spans_of object) i d = span_of entries (spans_of object) i d match (omega arith) in
    let second : SpanOf entries (spans_of object) j d = span_of entries (spans_of object) j d match low in
    ranges_apart (get_or entries i d) (get_or entries j d) first.span second.span first.same second.same
    (apart_at (spans_of object) i j first.span second.span (no_overlaps object is.none) (λ same. absurd (omega arith)) first.there second.there)

-- ---- the fault for which an object is refused

record IsLeastOf (xs : List ℕ) (m : ℕ) : Type 0 where
  here : In m xs
  least : (x : ℕ) → In x xs → m ≤ x

least_is : (xs : List ℕ) (m : ℕ) → least xs ≡ Some m → IsLeastOf xs m
least_is [] m e = no_some m e
least_is (x ∷ xs) m e = by (least xs) refl (least_is xs) e
  where
    lesser : (r : ℕ) → IsLeastOf xs r → min x r ≡ m → IsLeastOf (x ∷ xs) m
    lesser r rest is = elim (cases_lt r x) [
      | inl below ↦ let same : r ≡ m = omega arith in record {
        here = inr (subst (λ (k : ℕ). In k xs) same rest.here);
        least = λ y h. elim h [
          | inl first ↦ omega arith
          | inr later ↦ let high : r ≤ y = rest.least y later in omega arith
        ];
      }
      | inr past ↦ let same : x ≡ m = omega arith in record {
        here = inl same;
        least = λ y h. elim h [
          | inl first ↦ omega arith
          | inr later ↦ let high : r ≤ y = rest.least y later in omega arith
        ];
      }
    ]

    by : (o : Option ℕ) → least xs ≡ o → ((r : ℕ) → least xs ≡ Some r → IsLeastOf xs r) → Some (option_map_or (min x) o x) ≡ Some m → IsLeastOf (x ∷ xs) m
    by None none rest is = let same : x ≡ m = some_is x m is in record {
      here = inl same;
      least = λ y h. elim h [
        | inl first ↦ omega arith
        | inr later ↦ absurd (subst (In y) (least_empty xs none) later)
      ];
    }
    by (Some r) some rest is = lesser r (rest r some) (some_is (min x r) m is)

from_rule : (object : Object) (section : Section) (place : ℕ) → In section object.sections → has_entries section ≡ true → In place (flat_map (faults_of object section) section_rules) → IsBroken object place
from_rule object section place among has h =
    let it = from_flat (faults_of object section) section_rules place h in
    let rule : UnwindRule = it.0 in
    let at = from_filter_map (λ k. when (rule.fails object section k) (rule.place section k)) (range_with_len 0 (rule.count section)) place it.2 in
    by rule it.1 at.0 (omega (arith, below 0 (rule.count section) at.0 at.1)) (rule.fails object section at.0) refl at.2
  where
    below : (a n k : ℕ) → In k (range_with_len a n) → k < a + n
    below a zero k h = absurd h
    below a (suc n) k (inl e) = omega arith
    below a (suc n) k (inr h) = let rest : k < a + 1 + n = below (a + 1) n k h in omega arith

    by : (rule : UnwindRule) → In rule section_rules → (k : ℕ) → k < rule.count section → (b : Bool) → rule.fails object section k ≡ b → when b (rule.place section k) ≡ Some place → IsBroken object place
    by rule part k low true fails is = record {
      section = section;
      among = Contains_from_in object.sections section among;
      entries = has;
      rule = rule;
      part = Contains_from_in section_rules rule part;
      at = k;
      asked = low;
      fails = fails;
      told = some_is (rule.place section k) place is;
    }
    by rule part k low false fails is = no_some place is

from_section : (object : Object) (section : Section) (place : ℕ) → In section object.sections → In place (section_faults object section) → IsBroken object place
unfolding section_faults
from_section object section place among h = by (has_entries section) refl h
  where
    by : (b : Bool) → has_entries section ≡ b → In place (if b then flat_map (faults_of object section) section_rules else []) → IsBroken object place
    by true has there = from_rule object section place among has there
    by false has there = absurd there

to_section : (object : Object) (place : ℕ) (is : IsBroken object place) → In place (section_faults object is.section)
unfolding section_faults
to_section object place is =
    let told : when (is.rule.fails object is.section is.at) (is.rule.place is.section is.at) ≡ Some place = ap (λ (b : Bool). when b (is.rule.place is.section is.at)) is.fails ∙ ap Some is.told in
    let there : In place (faults_of object is.section is.rule) =
    in_filter_map (λ k. when (is.rule.fails object is.section k) (is.rule.place is.section k)) (range_with_len 0 (is.rule.count is.section)) is.at place (in_range 0 (is.rule.count is.section) is.at (omega arith) (omega (arith, is.asked))) told in
    let all : In place (flat_map (faults_of object is.section) section_rules) = in_flat (faults_of object is.section) section_rules is.rule place (in_from_Contains section_rules is.rule is.part) there in
    rw is.entries all

from_overlap : (object : Object) (place : ℕ) → In place (overlap_faults (spans_of object)) → IsOverlapping object place
unfolding overlap_faults
from_overlap object place h =
    let it = from_filter_map (overlap_at (spans_of object)) (range_with_len 0 (length (spans_of object))) place h in
    option_and_then_some (λ span. when (overlaps_another (spans_of object) it.0 span) span.place) (slice_get (spans_of object) it.0) place it.2 (λ span here told. by it.0 span here (overlaps_another (spans_of object) it.0 span) refl told)
  where
    tested : (one other : ℕ) (span : Span) → slice_get (spans_of object) one ≡ Some span → span.place ≡ place → (o : Option Span) → slice_get (spans_of object) other ≡ o → not (eqb other one) ≡ true → option_map_or (overlap span) o false ≡ true → IsOverlapping object place
    tested one other span here told None none differs common = absurd (false≢true common)
    tested one other span here told (Some beside) there differs common = record {
      one = one;
      other = other;
      apart = λ same. eqb-false other one (not-true (eqb other one) differs) (sym same);
      span = span;
      beside = beside;
      first = here;
      second = there;
      common = common;
      told = told;
    }

    by : (one : ℕ) (span : Span) → slice_get (spans_of object) one ≡ Some span → (b : Bool) → overlaps_another (spans_of object) one span ≡ b → when b span.place ≡ Some place → IsOverlapping object place
    by one span here true another is =
        let it = any_true (λ other. not (eqb other one) && option_map_or (overlap span) (slice_get (spans_of object) other) false) (range_with_len 0 (length (spans_of object))) another in
        let both : (not (eqb it.0 one) ≡ true) × (option_map_or (overlap span) (slice_get (spans_of object) it.0) false ≡ true) = and_parts _ _ it.2 in
        let told : span.place ≡ place = some_is span.place place is in
        tested one it.0 span here told (slice_get (spans_of object) it.0) refl both.0 both.1
    by one span here false another is = no_some place is

at_fault : (object : Object) (place : ℕ) → In place (flat_map (section_faults object) object.sections ++ overlap_faults (spans_of object)) → IsAtFault object place
at_fault object place h = elim (in_either (flat_map (section_faults object) object.sections) (overlap_faults (spans_of object)) place h) [
  | inl broken ↦ let it = from_flat (section_faults object) object.sections place broken in inl (from_section object it.0 place it.1 it.2)
  | inr overlapping ↦ inr (from_overlap object place overlapping)
]

among_faults : (object : Object) (place : ℕ) → IsAtFault object place → In place (flat_map (section_faults object) object.sections ++ overlap_faults (spans_of object))
among_faults object place (inl broken) =
    in_left (flat_map (section_faults object) object.sections) (overlap_faults (spans_of object)) place
    (in_flat (section_faults object) object.sections broken.section place (in_from_Contains object.sections broken.section broken.among) (to_section object place broken))
among_faults object place (inr is) =
    in_right (flat_map (section_faults object) object.sections) (overlap_faults (spans_of object)) place
    (subst (λ (p : ℕ). In p (overlap_faults (spans_of object))) is.told (told_in (spans_of object) is.one is.other is.span is.beside is.apart is.first is.second is.common))

all_faults : (object : Object) → first_fault object ≡ least (flat_map (section_faults object) object.sections ++ overlap_faults (spans_of object))
unfolding first_fault
all_faults object = refl

pub least_fault : (object : Object) (file : FileId) (place : ℕ) → unwinds_of object file ≡ Err (BadEntry place) → IsLeastFault object place
least_fault object file place e =
    let faults : List ℕ = flat_map (section_faults object) object.sections ++ overlap_faults (spans_of object) in
    let is : IsLeastOf faults place = least_is faults place (sym (all_faults object) ∙ refused object file place e) in
    record { here = at_fault object place is.here; least = λ other at. is.least other (among_faults object other at) }
