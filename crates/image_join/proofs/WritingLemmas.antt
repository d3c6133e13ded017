-- Parts that rise and are written one after the other make up the image.
use Rattle.std.proofs.Common.{◌≡◌, ℕ, suc, ◌+◌, ◌-◌, ◌<◌, ◌≤◌, ◌⊎◌, inl, inr, List, [], ◌∷◌, ◌++◌, length, take, drop, get_or, replicate, Bool, true, false, refl, sym, ap, ◌∙◌, subst, arith, length-append, length-drop}
use Rattle.std.proofs.Math.Seq.{drop-cons}
use Rattle.std.proofs.lemmas.List.{ext_get_or, drop_all, get_or_append_left, get_or-append_right, get_or-drop, get_or-replicate, get_or-take, length-replicate, length-take-le, take-append-le, take_all}
use Rattle.image_join.specs.Joined.{AreRising, LieApart, byte_at, covers, joined}
use Rattle.image_join.specs.declared.parts.Part.{Part}
use Rattle.image_join.specs.declared.parts.Parts.{Parts}
use Rattle.image_join.specs.inner.Writing.{with_part, with_parts}
use Rattle.image_join.proofs.JoinedLemmas.{byte_here, byte_of_joined, byte_past, covered_inside, covers_not, ends_after, length-joined, not_covered}

pub length-with_part : (image : List ℕ) (part : Part) → part.from + length part.bytes ≤ length image → length (with_part image part) ≡ length image
length-with_part image part room =
    let front : length (take part.from image) ≡ part.from = length-take-le part.from image (omega arith) in
    let back : length (drop (part.from + length part.bytes) image) ≡ length image - (part.from + length part.bytes) = length-drop (part.from + length part.bytes) image in
    rw (length-append, length-append, front, back) (omega arith)

-- a byte beside the part is as it was
stays : (image : List ℕ) (part : Part) (place : ℕ) → part.from + length part.bytes ≤ length image → (place < part.from) ⊎ (part.from + length part.bytes ≤ place) → get_or (with_part image part) place 0 ≡ get_or image place 0
stays image part place room (inl before) =
    let front : length (take part.from image) ≡ part.from = length-take-le part.from image (omega arith) in
    get_or_append_left (take part.from image) (part.bytes ++ drop (part.from + length part.bytes) image) 0 place (omega arith)
    ∙ get_or-take part.from image place 0 before
stays image part place room (inr after) =
    let front : length (take part.from image) ≡ part.from = length-take-le part.from image (omega arith) in
    get_or-append_right (take part.from image) (part.bytes ++ drop (part.from + length part.bytes) image) part.from place 0 front (omega arith)
    ∙ get_or-append_right part.bytes (drop (part.from + length part.bytes) image) (length part.bytes) (place - part.from) 0 refl (omega arith)
    ∙ get_or-drop (part.from + length part.bytes) image (place - part.from - length part.bytes) 0
    ∙ ap (λ (k : ℕ). get_or image k 0) (omega arith)

-- a byte of the part stands at its place
stands : (image : List ℕ) (part : Part) (place : ℕ) → part.from + length part.bytes ≤ length image → part.from ≤ place → place < part.from + length part.bytes → get_or (with_part image part) place 0 ≡ get_or part.bytes (place - part.from) 0
stands image part place room low high =
    let front : length (take part.from image) ≡ part.from = length-take-le part.from image (omega arith) in
    get_or-append_right (take part.from image) (part.bytes ++ drop (part.from + length part.bytes) image) part.from place 0 front low
    ∙ get_or_append_left part.bytes (drop (part.from + length part.bytes) image) 0 (place - part.from) (omega arith)

-- parts behind a place don't cover it
none_before : (start end : ℕ) (parts : List Part) (place : ℕ) → AreRising start end parts → place < start → byte_at parts place ≡ 0
unfolding byte_at
none_before start end [] place rising before = refl
none_before start end (part ∷ parts) place rising before =
    byte_past part parts place (covers_not place part (inl (let low = rising.0 in omega arith)))
    ∙ none_before (part.from + length part.bytes) end parts place rising.1 (let low = rising.0 in omega arith)

-- nor do they change it
unchanged : (start end : ℕ) (parts : List Part) (image : List ℕ) (place : ℕ) → AreRising start end parts → end ≤ length image → place < start → get_or (with_parts image parts) place 0 ≡ get_or image place 0
unchanged start end [] image place rising room before = refl
unchanged start end (part ∷ parts) image place rising room before =
    let low : start ≤ part.from = rising.0 in
    let last : part.from + length part.bytes ≤ end = ends_after (part.from + length part.bytes) end parts rising.1 in
    let same : length (with_part image part) ≡ length image = length-with_part image part (omega arith) in
    unchanged (part.from + length part.bytes) end parts (with_part image part) place rising.1 (omega arith) (omega arith)
    ∙ stays image part place (omega arith) (inl (omega arith))

-- over zeros, each place has its byte
written : (start end : ℕ) (parts : List Part) (image : List ℕ) (place : ℕ) → AreRising start end parts → end ≤ length image → get_or image place 0 ≡ 0 → get_or (with_parts image parts) place 0 ≡ byte_at parts place
unfolding byte_at
written start end [] image place rising room zero = zero
written start end (part ∷ parts) image place rising room zero =
    let last : part.from + length part.bytes ≤ end = ends_after (part.from + length part.bytes) end parts rising.1 in
    let same : length (with_part image part) ≡ length image = length-with_part image part (omega arith) in
    by_cover (covers place part) refl last same (written (part.from + length part.bytes) end parts (with_part image part) place rising.1 (omega arith))
  where
    by_cover : (covered : Bool) → covers place part ≡ covered → part.from + length part.bytes ≤ end → length (with_part image part) ≡ length image → (get_or (with_part image part) place 0 ≡ 0 → get_or (with_parts (with_part image part) parts) place 0 ≡ byte_at parts place) → get_or (with_parts (with_part image part) parts) place 0 ≡ byte_at (part ∷ parts) place
    by_cover true is last same others =
        let inside : (part.from ≤ place) × (place < part.from + length part.bytes) = covered_inside place part is in
        unchanged (part.from + length part.bytes) end parts (with_part image part) place rising.1 (omega arith) inside.1
        ∙ stands image part place (omega arith) inside.0 inside.1
        ∙ sym (byte_here part parts place is)
    by_cover false is last same others =
        others (stays image part place (omega arith) (not_covered place part is) ∙ zero)
        ∙ sym (byte_past part parts place is)

length-with_parts : (start end : ℕ) (parts : List Part) (image : List ℕ) → AreRising start end parts → end ≤ length image → length (with_parts image parts) ≡ length image
length-with_parts start end [] image rising room = refl
length-with_parts start end (part ∷ parts) image rising room =
    let last : part.from + length part.bytes ≤ end = ends_after (part.from + length part.bytes) end parts rising.1 in
    let same : length (with_part image part) ≡ length image = length-with_part image part (omega arith) in
    length-with_parts (part.from + length part.bytes) end parts (with_part image part) rising.1 (omega arith) ∙ same

over_zeros : (parts : Parts) (size : ℕ) → size ≡ parts.size → LieApart parts → with_parts (replicate size 0) parts.parts ≡ joined parts
over_zeros parts size e apart =
    let zeros : length (replicate size 0) ≡ size = length-replicate size 0 in
    let room : parts.size ≤ length (replicate size 0) = subst (λ (n : ℕ). parts.size ≤ n) (sym zeros) (subst (λ (n : ℕ). n ≤ size) e (omega arith)) in
    let long : length (with_parts (replicate size 0) parts.parts) ≡ size = length-with_parts 0 parts.size parts.parts (replicate size 0) apart room ∙ zeros in
    ext_get_or 0 (with_parts (replicate size 0) parts.parts) (joined parts) (long ∙ e ∙ sym (length-joined parts)) (λ place within.
    let below : place < size = subst (λ (n : ℕ). place < n) long within in
    written 0 parts.size parts.parts (replicate size 0) place apart room (get_or-replicate size place 0 0 below)
    ∙ sym (byte_of_joined parts place (subst (λ (n : ℕ). place < n) e below)))

pub joins : (parts : Parts) (zeros image : List ℕ) → zeros ≡ replicate parts.size 0 → LieApart parts → image ≡ with_parts zeros parts.parts → image ≡ joined parts
joins parts zeros image e apart is =
    is ∙ ap (λ (z : List ℕ). with_parts z parts.parts) e ∙ over_zeros parts parts.size refl apart

pub zeros_long : (parts : Parts) (zeros : List ℕ) → zeros ≡ replicate parts.size 0 → LieApart parts → AreRising 0 (length zeros) parts.parts
zeros_long parts zeros e apart =
    subst (λ (n : ℕ). AreRising 0 n parts.parts) (sym (ap (λ (z : List ℕ). length z) e ∙ length-replicate parts.size 0)) apart

pub ruleset joining = (zeros_long)

-- a vector whose bytes were all written
pub put_back : (n : ℕ) (new old : List ℕ) → length new ≡ n → take n (new ++ drop (length new) old) ≡ new
put_back n new old long = take-append-le n new (drop (length new) old) (omega arith) ∙ take_all n new (omega arith)

-- ---- the loop

-- the parts before a place are written
pub record IsWriting (parts : List Part) (old : List ℕ) (at : ℕ) (now : List ℕ) : Type 0 where
  pub rest : with_parts now (drop at parts) ≡ with_parts old parts
  pub size : length now ≡ length old
  pub start : ℕ
  pub rising : AreRising start (length old) (drop at parts)

pub writing_starts : (parts : List Part) (old : List ℕ) → AreRising 0 (length old) parts → IsWriting parts old 0 old
writing_starts parts old rising = record { rest = refl; size = refl; start = 0; rising = rising }

next_part : (parts : List Part) (at : ℕ) (part : Part) → at < length parts → part ≡ get_or parts at part → drop at parts ≡ part ∷ drop (at + 1) parts
next_part parts at part within is =
    let one : suc at ≡ at + 1 = omega arith in
    drop-cons parts at part within ∙ ap (λ (n : ℕ). get_or parts at part ∷ drop n parts) one ∙ ap (λ (p : Part). p ∷ drop (at + 1) parts) (sym is)

rising_next : (parts : List Part) (old : List ℕ) (at : ℕ) (now : List ℕ) (part : Part) (writing : IsWriting parts old at now) → at < length parts → part ≡ get_or parts at part → AreRising writing.start (length old) (part ∷ drop (at + 1) parts)
rising_next parts old at now part writing within is = subst (AreRising writing.start (length old)) (next_part parts at part within is) writing.rising

pub part_has_room : (parts : List Part) (old : List ℕ) (at : ℕ) (now : List ℕ) (part : Part) → IsWriting parts old at now → at < length parts → part ≡ get_or parts at part → part.from + length part.bytes ≤ length now
part_has_room parts old at now part writing within is =
    let rising : AreRising writing.start (length old) (part ∷ drop (at + 1) parts) = rising_next parts old at now part writing within is in
    let last : part.from + length part.bytes ≤ length old = ends_after (part.from + length part.bytes) (length old) (drop (at + 1) parts) rising.1 in
    subst (λ (n : ℕ). part.from + length part.bytes ≤ n) (sym writing.size) last

pub writing_goes_on : (parts : List Part) (old : List ℕ) (at : ℕ) (now new : List ℕ) (part : Part) → IsWriting parts old at now → at < length parts → part ≡ get_or parts at part → new ≡ with_part now part → IsWriting parts old (at + 1) new
writing_goes_on parts old at now new part writing within is e = record {
  rest = ap (λ (z : List ℕ). with_parts z (drop (at + 1) parts)) e
      ∙ ap (λ (ps : List Part). with_parts now ps) (sym (next_part parts at part within is))
      ∙ writing.rest;
  size = ap (λ (z : List ℕ). length z) e ∙ length-with_part now part (part_has_room parts old at now part writing within is) ∙ writing.size;
  start = part.from + length part.bytes;
  rising = (rising_next parts old at now part writing within is).1;
}

pub writing_ends : (parts : List Part) (old : List ℕ) (at : ℕ) (now : List ℕ) → IsWriting parts old at now → length parts ≤ at → now ≡ with_parts old parts
writing_ends parts old at now writing past =
    ap (λ (ps : List Part). with_parts now ps) (sym (drop_all at parts past)) ∙ writing.rest

pub ruleset writes = (writing_starts, part_has_room, writing_goes_on, writing_ends)
