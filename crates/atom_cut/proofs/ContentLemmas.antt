-- A part of some bytes that may pass their end.
use Rattle.std.proofs.Common.{◌≡◌, ℕ, List, length, take, drop, min, sym, ap, ◌∙◌, arith, inl, inr}
use Rattle.std.proofs.lemmas.Bool.{cases_lt}
use Rattle.std.proofs.lemmas.List.{drop_all, take_min}

drop_min : (at : ℕ) (xs : List ℕ) → drop (min at (length xs)) xs ≡ drop at xs
drop_min at xs = elim (cases_lt (length xs) at) [
  | inl more ↦
      let e : min at (length xs) ≡ length xs = omega arith in
      ap (λ n. drop n xs) e ∙ drop_all (length xs) xs (omega arith) ∙ sym (drop_all at xs (omega arith))
  | inr less ↦
      let e : min at (length xs) ≡ at = omega arith in
      ap (λ n. drop n xs) e
]

pub part_of : (bytes rest : List ℕ) (at size start count : ℕ) → start ≡ min at (length bytes) → rest ≡ drop start bytes → count ≡ min size (length rest) → take count rest ≡ take size (drop at bytes)
part_of bytes rest at size start count begins is counts =
    ap (λ n. take n rest) counts ∙ take_min size rest ∙ ap (take size) (is ∙ ap (λ n. drop n bytes) begins ∙ drop_min at bytes)

pub ruleset parts = (part_of)
