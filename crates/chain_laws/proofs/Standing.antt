-- Bytes that stand at a place of others, and what is read there.
use Rattle.std.proofs.Common.{◌≡◌, ℕ, ◌+◌, ◌-◌, ◌<◌, ◌≤◌, ◌^◌, List, [], ◌∷◌, ◌++◌, length, take, drop, Some, sym, ap, subst, ◌∙◌, arith, append_assoc, length-append}
use Rattle.std.proofs.Math.Seq.{drop-append_seam}
use Rattle.std.proofs.lemmas.Bool.{le-leb}
use Rattle.std.proofs.lemmas.List.{drop-drop, length-drop, take-append-drop}
use Rattle.mo_bytes.specs.Number.{number, number_at, number_bytes}
use Rattle.mo_bytes.proofs.Numbers.{length-number_bytes, number-number_bytes}
use Rattle.mo_format.specs.Fields.{Field, Number, Name, spelled}

pub record Stands (image : List ℕ) (at : ℕ) (bytes : List ℕ) : Type 0 where
  pub rest : List ℕ
  pub is : drop at image ≡ bytes ++ rest

pub stands_left : (image : List ℕ) (at : ℕ) (a b : List ℕ) → Stands image at (a ++ b) → Stands image at a
stands_left image at a b s = record { rest = b ++ s.rest; is = s.is ∙ append_assoc a b s.rest }

pub stands_right : (image : List ℕ) (at to : ℕ) (a b : List ℕ) → to ≡ at + length a → Stands image at (a ++ b) → Stands image to b
stands_right image at to a b e s = record {
  rest = s.rest;
  is =
      ap (λ (n : ℕ). drop n image) e
      ∙ sym (drop-drop (length a) at image)
      ∙ ap (drop (length a)) (s.is ∙ append_assoc a b s.rest)
      ∙ drop-append_seam a (b ++ s.rest);
}

pub stands_as : (image : List ℕ) (at : ℕ) (a b : List ℕ) → a ≡ b → Stands image at a → Stands image at b
stands_as image at a b e s = subst (Stands image at) e s

pub stands_at : (image : List ℕ) (at to : ℕ) (a : List ℕ) → at ≡ to → Stands image at a → Stands image to a
stands_at image at to a e s = subst (λ (n : ℕ). Stands image n a) e s

pub stands_taken : (image : List ℕ) (at : ℕ) (bytes : List ℕ) → take (length bytes) (drop at image) ≡ bytes → Stands image at bytes
stands_taken image at bytes e = record {
  rest = drop (length bytes) (drop at image);
  is = sym (take-append-drop (length bytes) (drop at image)) ∙ ap (λ (xs : List ℕ). xs ++ drop (length bytes) (drop at image)) e;
}

-- they lie within the image
pub stands_within : (image : List ℕ) (at : ℕ) (bytes : List ℕ) → Stands image at bytes → 0 < length bytes → at + length bytes ≤ length image
stands_within image at bytes s some =
    let size : length image - at ≡ length bytes + length s.rest = sym (length-drop at image) ∙ ap length s.is ∙ length-append bytes s.rest in
    omega (arith, size, some)

-- ---- numbers

pub number_stands : (image : List ℕ) (at w n : ℕ) → n < 256 ^ w → Stands image at (number_bytes w n) → number w image at ≡ n
unfolding number
number_stands image at w n fits s = ap (λ (xs : List ℕ). number w xs 0) s.is ∙ number-number_bytes w n s.rest fits

pub known_stands : (image : List ℕ) (at w n : ℕ) → 0 < w → n < 256 ^ w → Stands image at (number_bytes w n) → number_at w image at ≡ Some n
known_stands image at w n some fits s =
    let size : length (number_bytes w n) ≡ w = length-number_bytes w n in
    let within : at + length (number_bytes w n) ≤ length image = stands_within image at (number_bytes w n) s (omega (arith, size, some)) in
    let room : at + w ≤ length image = omega (arith, within, size) in
    rw (le-leb (at + w) (length image) room) (ap (λ (k : ℕ). Some k) (number_stands image at w n fits s))

-- ---- fields

abbrev pub AreNumbers : List Field → Type 0
AreNumbers [] = Unit {0}
AreNumbers (Number width value ∷ fs) = (0 < width) × (value < 256 ^ width) × AreNumbers fs
AreNumbers (Name bytes ∷ fs) = ⊥

-- the fields stand one after the other, the first one `passed` bytes after a place
abbrev pub EachStands : List ℕ → ℕ → ℕ → List Field → Type 0
EachStands image at passed [] = Unit {0}
EachStands image at passed (Number width value ∷ fs) = (number_at width image (at + passed) ≡ Some value) × EachStands image at (passed + width) fs
EachStands image at passed (Name bytes ∷ fs) = Unit {0}

pub fields_stand : (image : List ℕ) (at passed : ℕ) (fs : List Field) → AreNumbers fs → Stands image (at + passed) (spelled fs) → EachStands image at passed fs
fields_stand image at passed [] fit s = tt
fields_stand image at passed (Number width value ∷ fs) fit s =
    let next : at + (passed + width) ≡ at + passed + length (number_bytes width value) = rw length-number_bytes (omega arith) in (
      known_stands image (at + passed) width value fit.0 fit.1 (stands_left image (at + passed) (number_bytes width value) (spelled fs) s),
      fields_stand image at (passed + width) fs fit.2 (stands_right image (at + passed) (at + (passed + width)) (number_bytes width value) (spelled fs) next s),
    )
fields_stand image at passed (Name bytes ∷ fs) fit s = absurd fit
