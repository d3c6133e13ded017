-- Parts of one size that follow each other.
use Rattle.std.proofs.Common.{◌≡◌, ℕ, zero, suc, ◌+◌, ◌*◌, ◌<◌, List, [], ◌∷◌, ◌++◌, length, map, refl, sym, ap, ◌∙◌, append_assoc, arith}
use Rattle.std.specs.List.{flat_map, range_with_len}
use Rattle.std.proofs.lemmas.List.{length-append}
use Rattle.mo_bytes.proofs.Numbers.{length-number_bytes}
use Rattle.mo_format.specs.Fields.{Field, Number, Name, field_bytes, spelled}
use Rattle.mo_format.proofs.FieldLemmas.{AreFit, IsFit, width_of}

-- what stands before, here, and behind
pub record IsSplit (whole front here rest : List ℕ) : Type 0 where
  pub is : whole ≡ (front ++ here) ++ rest

pub split_behind : (old whole front here rest more : List ℕ) → IsSplit whole front here rest → IsSplit (old ++ (whole ++ more)) (old ++ front) here (rest ++ more)
split_behind old whole front here rest more split = record {
  is =
      ap (λ (l : List ℕ). old ++ (l ++ more)) split.is
      ∙ ap (λ (l : List ℕ). old ++ l) (append_assoc (front ++ here) rest more)
      ∙ sym (append_assoc old (front ++ here) (rest ++ more))
      ∙ ap (λ (l : List ℕ). l ++ (rest ++ more)) (sym (append_assoc old front here));
}

-- the part of a number of some parts of one size
pub record IsChunk (whole here : List ℕ) (size number : ℕ) : Type 0 where
  pub front : List ℕ
  pub rest : List ℕ
  pub split : IsSplit whole front here rest
  pub place : length front ≡ size * number

pub chunk : {X : Type 0} (bytes : X → List ℕ) (f : ℕ → X) (size a n r j : ℕ) → a + r ≡ j → ((k : ℕ) → length (bytes (f k)) ≡ size) → r < n → IsChunk (flat_map bytes (map f (range_with_len a n))) (bytes (f j)) size r
chunk bytes f size a zero r j at same low = absurd (omega arith)
chunk bytes f size a (suc n) zero j at same low =
    let e : a ≡ j = omega arith in record {
      front = [];
      rest = flat_map bytes (map f (range_with_len (a + 1) n));
      split = record { is = ap (λ (k : ℕ). bytes (f k) ++ flat_map bytes (map f (range_with_len (a + 1) n))) e };
      place = omega arith;
    }
chunk bytes f size a (suc n) (suc r) j at same low =
    let later = chunk bytes f size (a + 1) n r j (omega arith) same (omega arith) in
    let here = same a in
    let long = later.place in
    let sum = length-append (bytes (f a)) later.front in
    record {
      front = bytes (f a) ++ later.front;
      rest = later.rest;
      split = record {
        is =
            ap (λ (l : List ℕ). bytes (f a) ++ l) later.split.is
            ∙ sym (append_assoc (bytes (f a)) (later.front ++ bytes (f j)) later.rest)
            ∙ ap (λ (l : List ℕ). l ++ later.rest) (sym (append_assoc (bytes (f a)) later.front (bytes (f j))));
      };
      place = sum ∙ grow size r (length (bytes (f a))) (length later.front) here long;
    }
  where
    grow : (s r a b : ℕ) → a ≡ s → b ≡ s * r → a + b ≡ s * suc r
    grow s r a b p q = rw (p, q) (omega arith)

pub length_chunks : {X : Type 0} (bytes : X → List ℕ) (f : ℕ → X) (size a n : ℕ) → ((k : ℕ) → length (bytes (f k)) ≡ size) → length (flat_map bytes (map f (range_with_len a n))) ≡ size * n
length_chunks bytes f size a zero same = omega arith
length_chunks bytes f size a (suc n) same =
    let here = same a in
    let rest = length_chunks bytes f size (a + 1) n same in
    length-append (bytes (f a)) (flat_map bytes (map f (range_with_len (a + 1) n))) ∙ grow size n (length (bytes (f a))) (length (flat_map bytes (map f (range_with_len (a + 1) n)))) here rest
  where
    grow : (s n a b : ℕ) → a ≡ s → b ≡ s * n → a + b ≡ s * suc n
    grow s n a b p q = rw (p, q) (omega arith)

-- ---- the bytes of a structure

abbrev pub widths : List Field → ℕ
widths [] = 0
widths (f ∷ fs) = width_of f + widths fs

length_field : (f : Field) → IsFit f → length (field_bytes f) ≡ width_of f
length_field (Number width value) fit = length-number_bytes width value
length_field (Name bytes) fit = fit

pub length_spelled : (fs : List Field) → AreFit fs → length (spelled fs) ≡ widths fs
length_spelled [] fit = refl
length_spelled (f ∷ fs) fit =
    let here = length_field f fit.0 in
    let rest = length_spelled fs fit.1 in
    let sum = length-append (field_bytes f) (spelled fs) in
    omega arith
