-- The first bytes of a string.
use Rattle.std.proofs.Common.{◌≡◌, ℕ, List, length, min, take, ap, ◌∙◌, arith}
use Rattle.std.proofs.lemmas.List.{take_min}

pub front_of : (bytes : List ℕ) (count : ℕ) → count ≡ min (length bytes) 1024 → take count bytes ≡ take 1024 bytes
front_of bytes count is =
    let e : count ≡ min 1024 (length bytes) = omega arith in
    ap (λ n. take n bytes) e ∙ take_min 1024 bytes

pub ruleset fronts = (front_of)
