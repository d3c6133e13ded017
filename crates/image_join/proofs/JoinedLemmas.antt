-- Parts that lie apart make up one image.
use Rattle.std.proofs.Common.{◌≡◌, ℕ, ◌+◌, ◌-◌, ◌<◌, ◌≤◌, ◌&&◌, ◌⊎◌, inl, inr, List, [], ◌∷◌, length, get_or, nat_le, nat_lt, Bool, true, false, refl, sym, ap, ◌∙◌, arith}
use Rattle.std.specs.List.{AllByRecursion}
use Rattle.std.proofs.lemmas.Bool.{cases_lt, le-leb, le-ltb, leb-false, leb-true, lt-leb, lt-ltb, ltb-false, ltb-true}
use Rattle.std.proofs.lemmas.List.{ext_get_or, get_or_past}
use Rattle.std.proofs.lemmas.List.FromFn.{get_or-map-range_with_len, length-map-range_with_len}
use Rattle.image_join.specs.Joined.{AreRising, IsBare, IsJoined, LieApart, StandsIn, byte_at, covers, joined}
use Rattle.image_join.specs.declared.parts.Part.{Part}
use Rattle.image_join.specs.declared.parts.Parts.{Parts}

both : (a b : Bool) → (a && b) ≡ true → (a ≡ true) × (b ≡ true)
both true b e = (refl, e)
both false b e = absurd cc

covers_inside : (place : ℕ) (part : Part) → part.from ≤ place → place < part.from + length part.bytes → covers place part ≡ true
covers_inside place part low high = rw (le-leb part.from place low, lt-ltb place (part.from + length part.bytes) high) refl

pub covers_not : (place : ℕ) (part : Part) → (place < part.from) ⊎ (part.from + length part.bytes ≤ place) → covers place part ≡ false
covers_not place part (inl before) = rw (lt-leb part.from place before) refl
covers_not place part (inr after) = by_low (nat_le part.from place)
  where
    by_low : (low : Bool) → (low && nat_lt place (part.from + length part.bytes)) ≡ false
    by_low false = refl
    by_low true = le-ltb place (part.from + length part.bytes) after

pub not_covered : (place : ℕ) (part : Part) → covers place part ≡ false → (place < part.from) ⊎ (part.from + length part.bytes ≤ place)
not_covered place part e = by_low (nat_le part.from place) refl
  where
    by_low : (low : Bool) → nat_le part.from place ≡ low → (place < part.from) ⊎ (part.from + length part.bytes ≤ place)
    by_low false before = inl (leb-false part.from place before)
    by_low true after = let high : nat_lt place (part.from + length part.bytes) ≡ false = rw after at e in inr (ltb-false place (part.from + length part.bytes) high)

pub covered_inside : (place : ℕ) (part : Part) → covers place part ≡ true → (part.from ≤ place) × (place < part.from + length part.bytes)
covered_inside place part e =
    let parts = both _ _ e in
    (leb-true part.from place parts.0, ltb-true place (part.from + length part.bytes) parts.1)

-- the byte of the first part, or that of the others

pub byte_here : (part : Part) (parts : List Part) (place : ℕ) → covers place part ≡ true → byte_at (part ∷ parts) place ≡ get_or part.bytes (place - part.from) 0
unfolding byte_at
byte_here part parts place is = rw is refl

pub byte_past : (part : Part) (parts : List Part) (place : ℕ) → covers place part ≡ false → byte_at (part ∷ parts) place ≡ byte_at parts place
unfolding byte_at
byte_past part parts place is = rw is refl

bare_zero : (parts : List Part) (place : ℕ) → IsBare parts place → byte_at parts place ≡ 0
unfolding byte_at
bare_zero [] place bare = refl
bare_zero (part ∷ parts) place bare = byte_past part parts place (covers_not place part bare.0) ∙ bare_zero parts place bare.1

pub ends_after : (start end : ℕ) (parts : List Part) → AreRising start end parts → start ≤ end
ends_after start end [] apart = apart
ends_after start end (part ∷ parts) apart = let rest = ends_after (part.from + length part.bytes) end parts apart.1 in let low = apart.0 in omega arith

-- parts that lie apart stand in what has their bytes
all_stand : (image : List ℕ) (start end : ℕ) (parts : List Part) → AreRising start end parts → ((place : ℕ) → start ≤ place → place < end → get_or image place 0 ≡ byte_at parts place) → AllByRecursion (StandsIn image) parts
all_stand image start end [] apart agrees = tt
all_stand image start end (part ∷ parts) apart agrees =
    let low : start ≤ part.from = apart.0 in
    let last : part.from + length part.bytes ≤ end = ends_after (part.from + length part.bytes) end parts apart.1 in (
      (λ k within.
          agrees (part.from + k) (omega arith) (omega arith)
          ∙ byte_here part parts (part.from + k) (covers_inside (part.from + k) part (omega arith) (omega arith))
          ∙ ap (λ (i : ℕ). get_or part.bytes i 0) (omega arith)),
      all_stand image (part.from + length part.bytes) end parts apart.1 (λ place after before.
          agrees place (omega arith) before ∙ byte_past part parts place (covers_not place part (inr after))),
    )

pub length-joined : (parts : Parts) → length (joined parts) ≡ parts.size
unfolding joined
length-joined parts = length-map-range_with_len (byte_at parts.parts) 0 parts.size

pub byte_of_joined : (parts : Parts) (place : ℕ) → place < parts.size → get_or (joined parts) place 0 ≡ byte_at parts.parts place
unfolding joined
byte_of_joined parts place within = get_or-map-range_with_len (byte_at parts.parts) 0 parts.size place place 0 within (omega arith)

pub is_joined : (parts : Parts) → LieApart parts → IsJoined parts (joined parts)
is_joined parts apart = record {
  size = length-joined parts;
  each = all_stand (joined parts) 0 parts.size parts.parts apart (λ place low high. byte_of_joined parts place high);
  zeros = zeros;
}
  where
    zeros : (place : ℕ) → IsBare parts.parts place → get_or (joined parts) place 0 ≡ 0
    zeros place bare = elim (cases_lt place parts.size) [
      | inl within ↦ byte_of_joined parts place within ∙ bare_zero parts.parts place bare
      | inr past ↦ get_or_past (joined parts) place 0 (rw length-joined past)
    ]

-- what has its parts and zeros elsewhere has the byte of each place
has_byte : (image : List ℕ) (place : ℕ) (parts : List Part) → AllByRecursion (StandsIn image) parts → (IsBare parts place → get_or image place 0 ≡ 0) → get_or image place 0 ≡ byte_at parts place
unfolding byte_at
has_byte image place [] each zeros = zeros tt
has_byte image place (part ∷ parts) each zeros = by_cover (covers place part) refl (has_byte image place parts each.1)
  where
    by_cover : (covered : Bool) → covers place part ≡ covered → ((IsBare parts place → get_or image place 0 ≡ 0) → get_or image place 0 ≡ byte_at parts place) → get_or image place 0 ≡ byte_at (part ∷ parts) place
    by_cover false is rest = rest (λ bare. zeros (not_covered place part is, bare)) ∙ sym (byte_past part parts place is)
    by_cover true is rest =
        let inside : (part.from ≤ place) × (place < part.from + length part.bytes) = covered_inside place part is in
        let back : part.from + (place - part.from) ≡ place = let low = inside.0 in omega arith in
        ap (λ (k : ℕ). get_or image k 0) (sym back)
        ∙ each.0 (place - part.from) (let low = inside.0 in let high = inside.1 in omega arith)
        ∙ sym (byte_here part parts place is)

pub only_joined : (parts : Parts) (image : List ℕ) → IsJoined parts image → image ≡ joined parts
only_joined parts image is =
    ext_get_or 0 image (joined parts) (is.size ∙ sym (length-joined parts)) (λ place within.
    has_byte image place parts.parts is.each (is.zeros place) ∙ sym (byte_of_joined parts place (let same = is.size in omega arith)))
