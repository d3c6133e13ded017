-- The numbers that bytes spell.
use Rattle.std.proofs.Common.{◌≡◌, ℕ, ◌+◌, ◌∷◌, [], List, get_or, drop, refl, sym, ap, ◌∙◌, arith}
use Rattle.std.specs.Int.{w32, w64, from_le_bytes}
use Rattle.std.proofs.lemmas.List.{get_or-drop}

pub number_of_4 : (bytes : List ℕ) (at b0 b1 b2 b3 : ℕ) → b0 ≡ get_or bytes at 0 → b1 ≡ get_or bytes (at + 1) 0 → b2 ≡ get_or bytes (at + 2) 0 → b3 ≡ get_or bytes (at + 3) 0 → from_le_bytes w32 (b0 ∷ b1 ∷ b2 ∷ b3 ∷ []) ≡ from_le_bytes w32 (drop at bytes)
number_of_4 bytes at b0 b1 b2 b3 e0 e1 e2 e3 =
    let d0 : get_or (drop at bytes) 0 0 ≡ b0 = get_or-drop at bytes 0 0 ∙ ap (λ n. get_or bytes n 0) (omega arith) ∙ sym e0 in
    let d1 : get_or (drop at bytes) 1 0 ≡ b1 = get_or-drop at bytes 1 0 ∙ sym e1 in
    let d2 : get_or (drop at bytes) 2 0 ≡ b2 = get_or-drop at bytes 2 0 ∙ sym e2 in
    let d3 : get_or (drop at bytes) 3 0 ≡ b3 = get_or-drop at bytes 3 0 ∙ sym e3 in
    rw (d0, d1, d2, d3) refl

pub number_of_8 : (bytes : List ℕ) (at b0 b1 b2 b3 b4 b5 b6 b7 : ℕ) → b0 ≡ get_or bytes at 0 → b1 ≡ get_or bytes (at + 1) 0 → b2 ≡ get_or bytes (at + 2) 0 → b3 ≡ get_or bytes (at + 3) 0 → b4 ≡ get_or bytes (at + 4) 0 → b5 ≡ get_or bytes (at + 5) 0 → b6 ≡ get_or bytes (at + 6) 0 → b7 ≡ get_or bytes (at + 7) 0 → from_le_bytes w64 (b0 ∷ b1 ∷ b2 ∷ b3 ∷ b4 ∷ b5 ∷ b6 ∷ b7 ∷ []) ≡ from_le_bytes w64 (drop at bytes)
number_of_8 bytes at b0 b1 b2 b3 b4 b5 b6 b7 e0 e1 e2 e3 e4 e5 e6 e7 =
    let d0 : get_or (drop at bytes) 0 0 ≡ b0 = get_or-drop at bytes 0 0 ∙ ap (λ n. get_or bytes n 0) (omega arith) ∙ sym e0 in
    let d1 : get_or (drop at bytes) 1 0 ≡ b1 = get_or-drop at bytes 1 0 ∙ sym e1 in
    let d2 : get_or (drop at bytes) 2 0 ≡ b2 = get_or-drop at bytes 2 0 ∙ sym e2 in
    let d3 : get_or (drop at bytes) 3 0 ≡ b3 = get_or-drop at bytes 3 0 ∙ sym e3 in
    let d4 : get_or (drop at bytes) 4 0 ≡ b4 = get_or-drop at bytes 4 0 ∙ sym e4 in
    let d5 : get_or (drop at bytes) 5 0 ≡ b5 = get_or-drop at bytes 5 0 ∙ sym e5 in
    let d6 : get_or (drop at bytes) 6 0 ≡ b6 = get_or-drop at bytes 6 0 ∙ sym e6 in
    let d7 : get_or (drop at bytes) 7 0 ≡ b7 = get_or-drop at bytes 7 0 ∙ sym e7 in
    rw (d0, d1, d2, d3, d4, d5, d6, d7) refl

pub ruleset numbers = (number_of_4, number_of_8)
