-- A loop of draws.
use Rattle.std.proofs.Common.{◌≡◌, ℕ, suc, ◌+◌, ◌%◌, ◌/◌, ◌<◌, ◌^◌, List, [], ◌∷◌, ◌++◌, map, refl, sym, ap, ◌∙◌, arith}
use Rattle.std.specs.List.{range_with_len}
use Rattle.std.proofs.lemmas.List.FromFn.{map-range_with_len_more}
use Rattle.link_gen.specs.Draws.{after, drawn, next}

-- after so many draws, the last number is x
pub record AreDrawn (count first at x : ℕ) (now : List ℕ) : Type 0 where
  pub number : x ≡ after (first + at) count
  pub low : x < 2 ^ 64
  pub are : now ≡ map (drawn count) (range_with_len first at)

pub drawing_starts : (count first x : ℕ) (now : List ℕ) → x < 2 ^ 64 → x ≡ after first count → now ≡ [] → AreDrawn count first 0 x now
drawing_starts count first x now low is none = record {
  number = let e : first + 0 ≡ first = omega arith in rw e is;
  low = low;
  are = none;
}

pub drawing_goes_on : (count first at x y t : ℕ) (now new : List ℕ) → AreDrawn count first at x now → y ≡ next x → y < 2 ^ 64 → t ≡ y / 2 ^ 33 % count → new ≡ now ++ t ∷ [] → AreDrawn count first (at + 1) y new
unfolding drawn
drawing_goes_on count first at x y t now new drawn_now is low value e =
    let number : y ≡ after (first + at + 1) count =
    is ∙ ap next drawn_now.number ∙ ap (λ (k : ℕ). after k count) (let s : suc (first + at) ≡ first + at + 1 = omega arith in s) in
    let same : t ≡ drawn count (first + at) = value ∙ ap (λ (z : ℕ). z / 2 ^ 33 % count) number in
    record {
      number = let s : first + (at + 1) ≡ first + at + 1 = omega arith in rw s number;
      low = low;
      are = e ∙ ap (λ (z : ℕ). now ++ z ∷ []) same ∙ ap (λ (zs : List ℕ). zs ++ drawn count (first + at) ∷ []) drawn_now.are
          ∙ sym (map-range_with_len_more (drawn count) first at (first + at) refl);
    }

pub ruleset drawing = (drawing_starts, drawing_goes_on)
