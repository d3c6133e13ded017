-- What is kept of ranges, as they come, and what it tells of those of an object.
use Rattle.std.proofs.Common.{◌≡◌, ℕ, zero, suc, ◌+◌, ◌-◌, ◌^◌, ◌<◌, ◌≤◌, ◌++◌, ◌∷◌, [], ◌&&◌, List, length, map, take, get_or, slice_get, All, true, false, not, Some, None, inl, inr, refl, sym, ap, ◌∙◌, subst, arith}
use Rattle.std.specs.List.{flat_map}
use Rattle.std.proofs.lemmas.Bool.{and_parts, cases_lt, not-true}
use Rattle.std.proofs.lemmas.List.{get_or-append-add, get_or-map, length-append, length-map, map-append, take_all, take_more}
use Rattle.std.proofs.lemmas.Option.{get_or_from_slice_get, slice_get_within}
use Rattle.list_lemmas.proofs.Members.{In, in_from_Contains}
use Rattle.mo_types.specs.declared.key.FileId.{FileId}
use Rattle.mo_types.specs.declared.object.Object.{Object}
use Rattle.mo_types.specs.declared.unwind.Unwind.{Unwind}
use Rattle.mo_types.specs.RelocationRules.{least}
use Rattle.mo_types.specs.Whole.{IsWhole}
use Rattle.unwind_read.specs.declared.ranges.Ranges.{Ranges}
use Rattle.unwind_read.specs.declared.spans.Span.{Span}
use Rattle.unwind_read.specs.Overlaps.{IsSpan, RiseTo, begin_of, end_of, is_before, overlap_faults}
use Rattle.unwind_read.specs.Ranges.{AreRangesOf, place_of, span_from}
use Rattle.unwind_read.specs.Unwinds.{section_unwinds, spans_of}
use Rattle.unwind_read.proofs.LawLemmas.{Match, SameRange, SpanOf, match_all, span_of}
use Rattle.unwind_read.proofs.OverlapLemmas.{rise_all}
use Rattle.unwind_read.proofs.RoomLemmas.{HasRoom, span_room}

-- no ranges

pub no_ranges : (ranges : Ranges) → ranges.places.items ≡ [] → AreRangesOf ranges []
no_ranges ranges none = record {
  places = none;
  end = λ d some. absurd (omega arith);
  rise = λ told. record { next = λ k d below within. absurd (omega arith) };
}

pub ruleset nothing = (no_ranges)

-- one range more

got_left : (xs ys : List Span) (k : ℕ) (d : Span) → k < length xs → get_or (xs ++ ys) k d ≡ get_or xs k d
got_left [] ys k d within = absurd (omega arith)
got_left (x ∷ xs) ys zero d within = refl
got_left (x ∷ xs) ys (suc k) d within = got_left xs ys k d (omega arith)

got_last : (xs : List Span) (x : Span) (k : ℕ) (d : Span) → k ≡ length xs → get_or (xs ++ x ∷ []) k d ≡ x
got_last xs x k d last =
    let is : k ≡ length xs + 0 = omega arith in
    ap (λ n. get_or (xs ++ x ∷ []) n d) is ∙ get_or-append-add xs (x ∷ []) 0 d

rise_pushed : (spans : List Span) (span : Span) → RiseTo spans (length spans) → ((d : Span) → 0 < length spans → is_before (begin_of span) (end_of (get_or spans (length spans - 1) d)) ≡ false) → RiseTo (spans ++ span ∷ []) (length (spans ++ span ∷ []))
rise_pushed spans span rise apart = record {
  next = λ k d below within.
      let count : length (spans ++ span ∷ []) ≡ length spans + 1 = length-append spans (span ∷ []) in
      elim (cases_lt (k + 1) (length spans)) [
        | inl before ↦
            subst (λ (s : Span). is_before (begin_of s) (end_of (get_or (spans ++ span ∷ []) k d)) ≡ false) (sym (got_left spans (span ∷ []) (k + 1) d before))
            (subst (λ (s : Span). is_before (begin_of (get_or spans (k + 1) d)) (end_of s) ≡ false) (sym (got_left spans (span ∷ []) k d (omega arith))) (rise.next k d before before))
        | inr past ↦
            let last : k + 1 ≡ length spans = omega (arith, count) in
            let index : length spans - 1 ≡ k = omega arith in
            subst (λ (s : Span). is_before (begin_of s) (end_of (get_or (spans ++ span ∷ []) k d)) ≡ false) (sym (got_last spans span (k + 1) d last))
            (subst (λ (s : Span). is_before (begin_of span) (end_of s) ≡ false) (sym (got_left spans (span ∷ []) k d (omega arith)))
            (subst (λ (n : ℕ). is_before (begin_of span) (end_of (get_or spans n d)) ≡ false) index (apart d (omega arith))))
      ];
}

pub ranges_more : (old new : Ranges) (spans : List Span) (span : Span) → AreRangesOf old spans → new.places.items ≡ old.places.items ++ span.place ∷ [] → new.rises ≡ (old.rises && not (is_before (begin_of span) old.end)) → new.end ≡ end_of span → AreRangesOf new (spans ++ span ∷ [])
ranges_more old new spans span are places rises end =
    let count : length (spans ++ span ∷ []) ≡ length spans + 1 = length-append spans (span ∷ []) in
    record {
      places = places ∙ ap (λ ps. ps ++ span.place ∷ []) are.places ∙ sym (map-append place_of spans (span ∷ []));
      end = λ d some. end ∙ ap end_of (sym (got_last spans span (length (spans ++ span ∷ []) - 1) d (omega (arith, count))));
      rise = λ told.
          let parts : (old.rises ≡ true) × (not (is_before (begin_of span) old.end) ≡ true) = and_parts _ _ (sym rises ∙ told) in
          rise_pushed spans span (are.rise parts.0) (λ d some. ap (is_before (begin_of span)) (sym (are.end d some)) ∙ not-true _ parts.1);
    }

pub ruleset pushes = (ranges_more)

-- the ranges of an object's entries

in_got : (xs : List Span) (i : ℕ) (x : Span) → slice_get xs i ≡ Some x → In x xs
in_got xs i x e = in_from_Contains xs x (i, slice_get_within xs i x e, get_or_from_slice_get xs i x x e)

pub all_spans : (object : Object) → IsWhole object → All IsSpan (spans_of object)
all_spans object whole i d within =
    let is : HasRoom (get_or (spans_of object) i d) = span_room object (get_or (spans_of object) i d) whole (in_from_Contains (spans_of object) (get_or (spans_of object) i d) (i, within, get_or_same (spans_of object) i d within)) in
    record { some = is.some }
  where
    get_or_same : (xs : List Span) (i : ℕ) (d : Span) → i < length xs → get_or xs i (get_or xs i d) ≡ get_or xs i d
    get_or_same [] i d within = absurd (omega arith)
    get_or_same (x ∷ xs) zero d within = refl
    get_or_same (x ∷ xs) (suc i) d within = get_or_same xs i d (omega arith)

pub none_overlap : (object : Object) (ranges : Ranges) → IsWhole object → AreRangesOf ranges (spans_of object) → ranges.rises ≡ true → None ≡ least (overlap_faults (spans_of object))
none_overlap object ranges whole are told = rise_all (spans_of object) (length (spans_of object)) (all_spans object whole) (are.rise told) (omega arith)

match_length : (es : List Unwind) (ss : List Span) → Match es ss → length es ≡ length ss
match_length [] [] match = refl
match_length [] (s ∷ ss) match = absurd match
match_length (e ∷ es) [] match = absurd match
match_length (e ∷ es) (s ∷ ss) match = let rest : length es ≡ length ss = match_length es ss match.1 in omega arith

abbrev AreEntries : Object → FileId → List Unwind → Type 0
AreEntries object file entries = entries ≡ flat_map (section_unwinds object file) object.sections

matched : (object : Object) (file : FileId) (entries : List Unwind) → AreEntries object file entries → Match entries (spans_of object)
matched object file entries are = subst (λ (es : List Unwind). Match es (spans_of object)) (sym are) (match_all object file object.sections)

pub span_count : (object : Object) (file : FileId) (entries : List Unwind) → entries ≡ flat_map (section_unwinds object file) object.sections → length entries ≡ length (spans_of object)
span_count object file entries are = match_length entries (spans_of object) (matched object file entries are)

pub place_within : (object : Object) (file : FileId) (entries : List Unwind) (places : List ℕ) (at : ℕ) → entries ≡ flat_map (section_unwinds object file) object.sections → places ≡ map place_of (spans_of object) → at < length entries → at < length places
place_within object file entries places at are are_places within =
    let count : length entries ≡ length (spans_of object) = span_count object file entries are in
    let same : length places ≡ length (spans_of object) = ap length are_places ∙ length-map (spans_of object) place_of in
    omega arith

pub unwind_room : (object : Object) (file : FileId) (entries : List Unwind) (at : ℕ) (unwind : Unwind) → IsWhole object → entries ≡ flat_map (section_unwinds object file) object.sections → at < length entries → unwind ≡ get_or entries at unwind → unwind.atom.offset + unwind.offset + unwind.length < 2 ^ 64
unwind_room object file entries at unwind whole are within is =
    let its : SpanOf entries (spans_of object) at unwind = span_of entries (spans_of object) at unwind (matched object file entries are) within in
    let same : SameRange unwind its.span = subst (λ (u : Unwind). SameRange u its.span) (sym is) its.same in
    let room : HasRoom its.span = span_room object its.span whole (in_got (spans_of object) at its.span its.there) in
    let from : its.span.from ≡ unwind.atom.offset + unwind.offset = same.1 in
    let to : its.span.to ≡ its.span.from + unwind.length = same.2 in
    let high : its.span.to < 2 ^ 63 = room.room in
    omega arith

made_span : (s : Span) (section from to place : ℕ) → section ≡ s.section → from ≡ s.from → to ≡ s.to → place ≡ s.place → record { section = section; from = from; to = to; place = place } ≡ s
made_span s section from to place a b c d = rw (a, b, c, d) refl

pub span_is_next : (object : Object) (file : FileId) (entries : List Unwind) (places : List ℕ) (at place : ℕ) (unwind : Unwind) (spans more : List Span) → entries ≡ flat_map (section_unwinds object file) object.sections → places ≡ map place_of (spans_of object) → at < length entries → unwind ≡ get_or entries at unwind → place ≡ get_or places at place → spans ≡ take at (spans_of object) → more ≡ spans ++ span_from place unwind ∷ [] → more ≡ take (at + 1) (spans_of object)
span_is_next object file entries places at place unwind spans more are are_places within is is_place so_far pushed =
    let its : SpanOf entries (spans_of object) at unwind = span_of entries (spans_of object) at unwind (matched object file entries are) within in
    let same : SameRange unwind its.span = subst (λ (u : Unwind). SameRange u its.span) (sym is) its.same in
    let inside : at < length (spans_of object) = slice_get_within (spans_of object) at its.span its.there in
    let got : get_or (spans_of object) at its.span ≡ its.span = get_or_from_slice_get (spans_of object) at its.span its.span its.there in
    let its_place : place ≡ its.span.place = is_place ∙ ap (λ ps. get_or ps at place) are_places ∙ get_or-map place_of (spans_of object) at its.span place inside ∙ ap place_of got in
    let from : unwind.atom.offset + unwind.offset ≡ its.span.from = sym same.1 in
    let to : unwind.atom.offset + unwind.offset + unwind.length ≡ its.span.to = ap (λ n. n + unwind.length) from ∙ sym same.2 in
    let one : span_from place unwind ≡ its.span = made_span its.span unwind.atom.section (unwind.atom.offset + unwind.offset) (unwind.atom.offset + unwind.offset + unwind.length) place (sym same.0) from to its_place in
    pushed ∙ ap (λ xs. xs ++ span_from place unwind ∷ []) so_far ∙ ap (λ s. take at (spans_of object) ++ s ∷ []) (one ∙ sym got) ∙ sym (take_more (spans_of object) at its.span inside)

pub spans_all : (object : Object) (file : FileId) (entries : List Unwind) (spans : List Span) (at : ℕ) → entries ≡ flat_map (section_unwinds object file) object.sections → spans ≡ take at (spans_of object) → length entries ≤ at → spans ≡ spans_of object
spans_all object file entries spans at are is past =
    let count : length entries ≡ length (spans_of object) = span_count object file entries are in
    is ∙ take_all at (spans_of object) (omega arith)

abbrev pub no_unwind : Unwind
no_unwind = record { atom = record { file = record { position = 0; member = 0 }; section = 0; offset = 0 }; offset = 0; length = 0; encoding = 0; personality = None; lsda = None }
