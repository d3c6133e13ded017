-- The loop over segments, each with its sections.
use Rattle.std.proofs.Common.{◌≡◌, ℕ, zero, suc, ◌+◌, ◌-◌, ◌<◌, ◌≤◌, ◌==◌, List, [], ◌∷◌, ◌++◌, length, take, drop, get_or, Bool, true, false, refl, sym, ap, ◌∙◌, subst, arith, append_assoc, append-nil, add-one, drop-cons, length-drop}
use Rattle.std.proofs.Math.Dec.{eqb-suc-suc, eqb-zero-suc}
use Rattle.std.proofs.lemmas.List.{drop-drop, drop_all}
use Rattle.load_cmds.specs.inner.Counted.{AreCounted}
use Rattle.sect_place.specs.declared.layout.PlacedSection.{PlacedSection}
use Rattle.sect_place.specs.declared.layout.Segment.{Segment}
use Rattle.mo_format.specs.declared.segment.SegmentCommand.{SegmentCommand}
use Rattle.load_cmds.specs.Segments.{is_empty, segment_command, segment_with, segments_with}
use Rattle.load_cmds.specs.declared.parts.PartSizes.{PartSizes}

-- the segments before a place are written with their sections, which end before another place
pub record IsSegmenting (parts : PartSizes) (stubs slots : ℕ) (segments : List Segment) (sections : List PlacedSection) (old : List ℕ) (at first : ℕ) (now : List ℕ) : Type 0 where
  pub rest : now ++ segments_with parts stubs slots (drop at segments) (drop first sections) ≡ old ++ segments_with parts stubs slots segments sections
  pub are_in : AreCounted (drop at segments) (drop first sections)
  pub within : first ≤ length sections

pub segmenting_starts : (parts : PartSizes) (stubs slots : ℕ) (segments : List Segment) (sections : List PlacedSection) (old : List ℕ) → AreCounted segments sections → IsSegmenting parts stubs slots segments sections old 0 0 old
segmenting_starts parts stubs slots segments sections old are_in = record { rest = refl; are_in = are_in; within = omega arith }

next_segment : (segments : List Segment) (at : ℕ) (segment : Segment) → at < length segments → segment ≡ get_or segments at segment → drop at segments ≡ segment ∷ drop (at + 1) segments
next_segment segments at segment within is = rw (drop-cons segments at segment, ← is, add-one) refl

are_next : (parts : PartSizes) (stubs slots : ℕ) (segments : List Segment) (sections : List PlacedSection) (old : List ℕ) (at first : ℕ) (now : List ℕ) (segment : Segment) → IsSegmenting parts stubs slots segments sections old at first now → at < length segments → segment ≡ get_or segments at segment → AreCounted (segment ∷ drop (at + 1) segments) (drop first sections)
are_next parts stubs slots segments sections old at first now segment segmenting within is =
    subst (λ (z : List Segment). AreCounted z (drop first sections)) (next_segment segments at segment within is) segmenting.are_in

pub sections_are_there : (parts : PartSizes) (stubs slots : ℕ) (segments : List Segment) (sections : List PlacedSection) (old : List ℕ) (at first : ℕ) (now : List ℕ) (segment : Segment) → IsSegmenting parts stubs slots segments sections old at first now → at < length segments → segment ≡ get_or segments at segment → first + segment.sections ≤ length sections
sections_are_there parts stubs slots segments sections old at first now segment segmenting within is =
    let few : segment.sections ≤ length (drop first sections) = (are_next parts stubs slots segments sections old at first now segment segmenting within is).0 in
    let left : length (drop first sections) ≡ length sections - first = length-drop first sections in
    let room : first ≤ length sections = segmenting.within in
    omega arith

-- whether a segment is the last one
empty_at_end : {X : Type 0} (n : ℕ) (xs : List X) → n ≤ length xs → is_empty (drop n xs) ≡ (n == length xs)
empty_at_end zero [] low = refl
empty_at_end zero (x ∷ xs) low = sym (eqb-zero-suc (length xs))
empty_at_end (suc n) [] low = absurd (omega arith)
empty_at_end (suc n) (x ∷ xs) low = empty_at_end n xs (omega arith) ∙ sym (eqb-suc-suc n (length xs))

pub segmenting_goes_on : (parts : PartSizes) (stubs slots : ℕ) (segments : List Segment) (sections : List PlacedSection) (old : List ℕ) (at first next : ℕ) (now new : List ℕ) (segment : Segment) (command : SegmentCommand) (last : Bool) (these : List PlacedSection)
    → IsSegmenting parts stubs slots segments sections old at first now → at < length segments → segment ≡ get_or segments at segment
    → next ≡ first + segment.sections → last ≡ (at + 1 == length segments) → command ≡ segment_command parts last segment → these ≡ take segment.sections (drop first sections)
    → new ≡ now ++ segment_with command stubs slots these → IsSegmenting parts stubs slots segments sections old (at + 1) next new
segmenting_goes_on parts stubs slots segments sections old at first next now new segment command last these segmenting within is is_next is_last is_command are_these e =
    let end : is_empty (drop (at + 1) segments) ≡ last = empty_at_end (at + 1) segments (omega arith) ∙ sym is_last in
    let others : drop next sections ≡ drop segment.sections (drop first sections) = ap (λ (n : ℕ). drop n sections) is_next ∙ sym (drop-drop segment.sections first sections) in
    let this : segment_with command stubs slots these ≡ segment_with (segment_command parts (is_empty (drop (at + 1) segments)) segment) stubs slots (take segment.sections (drop first sections)) =
    ap (λ (z : SegmentCommand). segment_with z stubs slots these) (is_command ∙ ap (λ (b : Bool). segment_command parts b segment) (sym end))
    ∙ ap (λ (z : List PlacedSection). segment_with (segment_command parts (is_empty (drop (at + 1) segments)) segment) stubs slots z) are_these in
    let here : segments_with parts stubs slots (drop at segments) (drop first sections) ≡ segments_with parts stubs slots (segment ∷ drop (at + 1) segments) (drop first sections) =
    ap (λ (z : List Segment). segments_with parts stubs slots z (drop first sections)) (next_segment segments at segment within is) in
    let are : AreCounted (segment ∷ drop (at + 1) segments) (drop first sections) = are_next parts stubs slots segments sections old at first now segment segmenting within is in
    record {
      rest = ap (λ (z : List ℕ). z ++ segments_with parts stubs slots (drop (at + 1) segments) (drop next sections)) (e ∙ ap (λ (z : List ℕ). now ++ z) this)
          ∙ ap (λ (z : List PlacedSection). (now ++ segment_with (segment_command parts (is_empty (drop (at + 1) segments)) segment) stubs slots (take segment.sections (drop first sections))) ++ segments_with parts stubs slots (drop (at + 1) segments) z) others
          ∙ append_assoc now (segment_with (segment_command parts (is_empty (drop (at + 1) segments)) segment) stubs slots (take segment.sections (drop first sections))) (segments_with parts stubs slots (drop (at + 1) segments) (drop segment.sections (drop first sections)))
          ∙ ap (λ (z : List ℕ). now ++ z) (sym here)
          ∙ segmenting.rest;
      are_in = subst (λ (z : List PlacedSection). AreCounted (drop (at + 1) segments) z) (sym others) are.1;
      within = subst (λ (n : ℕ). n ≤ length sections) (sym is_next) (sections_are_there parts stubs slots segments sections old at first now segment segmenting within is);
    }

pub segmenting_ends : (parts : PartSizes) (stubs slots : ℕ) (segments : List Segment) (sections : List PlacedSection) (old : List ℕ) (at first : ℕ) (now : List ℕ) → IsSegmenting parts stubs slots segments sections old at first now → length segments ≤ at → now ≡ old ++ segments_with parts stubs slots segments sections
segmenting_ends parts stubs slots segments sections old at first now segmenting past =
    sym (append-nil now)
    ∙ ap (λ (z : List Segment). now ++ segments_with parts stubs slots z (drop first sections)) (sym (drop_all at segments past))
    ∙ segmenting.rest

pub ruleset segmenting = (segmenting_starts, sections_are_there, segmenting_goes_on, segmenting_ends)
