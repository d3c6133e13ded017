-- Numbers in bytes in which a number is written.
use Rattle.std.proofs.Common.{◌≡◌, ℕ, zero, suc, ◌+◌, ◌-◌, ◌^◌, ◌<◌, ◌≤◌, ◌⊎◌, inl, inr, List, ◌++◌, length, take, drop, slice_index, refl, sym, ap, ◌∙◌, arith, length-append, length-drop}
use Rattle.std.proofs.Math.Seq.{drop-append_seam}
use Rattle.std.proofs.lemmas.List.{get_or-drop, get_or-take, get_or_append_left, get_or-append_right, length-take-le}
use Rattle.byteorder.specs.Endian.{little_from}
use Rattle.mo_bytes.specs.Number.{number, number_bytes}
use Rattle.mo_bytes.proofs.Numbers.{length-number_bytes, number-number_bytes}
use Rattle.patch.specs.inner.Writing.{with_number}

little_same : (i n : ℕ) (xs ys : List ℕ) → ((j : ℕ) → i ≤ j → j < i + n → slice_index xs j ≡ slice_index ys j) → little_from i n xs ≡ little_from i n ys
little_same i zero xs ys same = refl
little_same i (suc n) xs ys same =
    let here = same i (omega arith) (omega arith) in
    let rest = little_same (suc i) n xs ys (λ j low high. same j (omega arith) (omega arith)) in
    rw (here, rest) refl

-- a number whose bytes are the same
pub number_same : (w at : ℕ) (xs ys : List ℕ) → ((k : ℕ) → at ≤ k → k < at + w → slice_index xs k ≡ slice_index ys k) → number w xs at ≡ number w ys at
unfolding number
number_same w at xs ys same =
    little_same 0 w (drop at xs) (drop at ys)
    (λ j low high. get_or-drop at xs j 0 ∙ same (at + j) (omega arith) (omega arith) ∙ sym (get_or-drop at ys j 0))

pub length-with_number : (w at n : ℕ) (bytes : List ℕ) → at + w ≤ length bytes → length (with_number w at n bytes) ≡ length bytes
unfolding with_number
length-with_number w at n bytes room =
    rw (length-append, length-append, length-take-le at bytes (omega arith), length-number_bytes, length-drop, length-drop) (omega arith)

byte_before : (w at n k : ℕ) (bytes : List ℕ) → at + w ≤ length bytes → k < at → slice_index (with_number w at n bytes) k ≡ slice_index bytes k
unfolding with_number
byte_before w at n k bytes room before =
    let front : length (take at bytes) ≡ at = length-take-le at bytes (omega arith) in
    get_or_append_left (take at bytes) (number_bytes w n ++ drop w (drop at bytes)) 0 k (omega arith)
    ∙ get_or-take at bytes k 0 before

byte_after : (w at n k : ℕ) (bytes : List ℕ) → at + w ≤ length bytes → at + w ≤ k → slice_index (with_number w at n bytes) k ≡ slice_index bytes k
unfolding with_number
byte_after w at n k bytes room after =
    let front : length (take at bytes) ≡ at = length-take-le at bytes (omega arith) in
    get_or-append_right (take at bytes) (number_bytes w n ++ drop w (drop at bytes)) at k 0 front (omega arith)
    ∙ get_or-append_right (number_bytes w n) (drop w (drop at bytes)) w (k - at) 0 (length-number_bytes w n) (omega arith)
    ∙ get_or-drop w (drop at bytes) (k - at - w) 0
    ∙ get_or-drop at bytes (w + (k - at - w)) 0
    ∙ ap (λ (j : ℕ). slice_index bytes j) (omega arith)

-- a byte outside the number
pub byte_outside : (w at n k : ℕ) (bytes : List ℕ) → at + w ≤ length bytes → (k < at) ⊎ (at + w ≤ k) → slice_index (with_number w at n bytes) k ≡ slice_index bytes k
byte_outside w at n k bytes room (inl before) = byte_before w at n k bytes room before
byte_outside w at n k bytes room (inr after) = byte_after w at n k bytes room after

-- the number itself
pub number_there : (w at n : ℕ) (bytes : List ℕ) → at + w ≤ length bytes → n < 256 ^ w → number w (with_number w at n bytes) at ≡ n
unfolding number with_number
number_there w at n bytes room small =
    let front : length (take at bytes) ≡ at = length-take-le at bytes (omega arith) in
    let behind : drop at (take at bytes ++ (number_bytes w n ++ drop w (drop at bytes))) ≡ number_bytes w n ++ drop w (drop at bytes) =
    ap (λ (m : ℕ). drop m (take at bytes ++ (number_bytes w n ++ drop w (drop at bytes)))) (sym front) ∙ drop-append_seam (take at bytes) (number_bytes w n ++ drop w (drop at bytes)) in
    ap (λ (xs : List ℕ). little_from 0 w xs) behind ∙ number-number_bytes w n (drop w (drop at bytes)) small
