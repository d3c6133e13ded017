-- Inputs by rising positions.
use Rattle.std.proofs.Common.{◌≡◌, ℕ, zero, suc, ◌+◌, ◌-◌, ◌^◌, ◌==◌, true, false, Fits, w16, w32, ◌<◌, ◌≤◌, List, length, map, get_or, [], ◌∷◌, subst, ap, arith}
use Rattle.std.specs.List.{AllAdjacentBelow}
use Rattle.std.specs.List.Sorted.{IsStrictlySortedBy}
use Rattle.std.specs.Ordering.{nat_cmp}
use Rattle.std.proofs.Math.Facts.{Fits-lt-pow, Fits-of_lt}
use Rattle.std.proofs.lemmas.List.{get_or-map, get_or_default, length-map}
use Rattle.std.proofs.lemmas.Map.Keys.{IsStrictlyIncreasing-from_sorted, sorted_from_strictly_increasing}
use Rattle.input_files.specs.Sources.{AreInOrder}
use Rattle.input_files.specs.declared.input.Input.{Input}

abbrev pub IsBelow : Input → Input → Type 0
IsBelow a b = a.position < b.position

abbrev places : List Input → List ℕ
places inputs = map (λ (input : Input). input.position) inputs

count : (inputs : List Input) → length (places inputs) ≡ length inputs
count inputs = length-map inputs (λ (input : Input). input.position)

place_at : (inputs : List Input) (k e : ℕ) (d : Input) → k < length inputs → get_or (places inputs) k e ≡ (get_or inputs k d).position
place_at inputs k e d low = get_or-map (λ (input : Input). input.position) inputs k d e low

some_input : (inputs : List Input) (k : ℕ) → k < length inputs → Input
some_input [] k low = absurd (omega (arith, low))
some_input (input ∷ inputs) k low = input

-- where each position is below the next one they are in order
pub in_order : (inputs : List Input) (i : ℕ) → AllAdjacentBelow IsBelow inputs i → length inputs ≤ i → AreInOrder inputs
in_order inputs i below past = sorted_from_strictly_increasing (places inputs) (λ k low.
    let next : k + 1 < length inputs = omega (arith, low, count inputs) in
    let here : k < length inputs = omega (arith, next) in
    let d : Input = some_input inputs k here in
    let less : (get_or inputs k d).position < (get_or inputs (k + 1) d).position = below k d (omega (arith, next, past)) in
    omega (arith, less, place_at inputs k 0 d here, place_at inputs (k + 1) 0 d next))

-- and nowhere else
pub out_of_order : (inputs : List Input) (i : ℕ) (a b : Input) → 1 ≤ i → i < length inputs → (get_or inputs i b).position ≤ (get_or inputs (i - 1) a).position → AreInOrder inputs → ⊥
out_of_order inputs i a b low high over order =
    let next : i - 1 + 1 ≡ i = omega (arith, low) in
    let less : get_or (places inputs) (i - 1) 0 < get_or (places inputs) (i - 1 + 1) 0 = IsStrictlyIncreasing-from_sorted (places inputs) order (i - 1) (omega (arith, low, high, count inputs)) in
    let below : get_or (places inputs) (i - 1) 0 < get_or (places inputs) i 0 = subst (λ (n : ℕ). get_or (places inputs) (i - 1) 0 < get_or (places inputs) n 0) next less in
    omega (arith, below, over, place_at inputs (i - 1) 0 a (omega (arith, high)), place_at inputs i 0 b high)

pub apart : (inputs : List Input) (i : ℕ) (a b d : Input) → 1 ≤ i → i < length inputs → (get_or inputs (i - 1) a).position < (get_or inputs i b).position → IsBelow (get_or inputs (i - 1) d) (get_or inputs i d)
apart inputs i a b d low high less =
    let first : (get_or inputs (i - 1) d).position ≡ (get_or inputs (i - 1) a).position = ap (λ (s : Input). s.position) (get_or_default inputs (i - 1) d a (omega (arith, low, high))) in
    let second : (get_or inputs i d).position ≡ (get_or inputs i b).position = ap (λ (s : Input). s.position) (get_or_default inputs i d b high) in
    omega (arith, less, first, second)

-- ---- how many inputs there are

low_number : (ps : List ℕ) (k : ℕ) → IsStrictlySortedBy nat_cmp ps → k < length ps → k ≤ get_or ps k 0
low_number ps zero order high = omega arith
low_number ps (suc k) order high =
    let same : k + 1 ≡ suc k = omega arith in
    let less : get_or ps k 0 < get_or ps (k + 1) 0 = IsStrictlyIncreasing-from_sorted ps order k (omega (arith, high)) in
    let next : get_or ps k 0 < get_or ps (suc k) 0 = subst (λ (n : ℕ). get_or ps k 0 < get_or ps n 0) same less in
    let before : k ≤ get_or ps k 0 = low_number ps k order (omega (arith, high)) in
    omega (arith, before, next)

-- a position isn't below the number of inputs before
pub low_position : (inputs : List Input) (k : ℕ) (d : Input) → AreInOrder inputs → k < length inputs → k ≤ (get_or inputs k d).position
low_position inputs k d order high =
    let low : k ≤ get_or (map (λ (input : Input). input.position) inputs) k 0 = low_number (map (λ (input : Input). input.position) inputs) k order (omega (arith, high, length-map inputs (λ (input : Input). input.position))) in
    subst (λ (n : ℕ). k ≤ n) (get_or-map (λ (input : Input). input.position) inputs k d 0 high) low

-- so there are no more than the last one's position tells
pub last_position : (inputs : List Input) (d : Input) → AreInOrder inputs → false ≡ (length inputs == 0) → length inputs ≤ (get_or inputs (length inputs - 1) d).position + 1
last_position [] d order some = absurd (let s : false ≡ true = some in cc)
last_position (input ∷ inputs) d order some =
    let low : length (input ∷ inputs) - 1 ≤ (get_or (input ∷ inputs) (length (input ∷ inputs) - 1) d).position = low_position (input ∷ inputs) (length (input ∷ inputs) - 1) d order (omega arith) in
    omega (arith, low)

-- and their number has 32 bits, where that position has 16
pub few_inputs : (inputs : List Input) (d : Input) → AreInOrder inputs → false ≡ (length inputs == 0) → Fits w16 (get_or inputs (length inputs - 1) d).position → Fits w32 (length inputs)
few_inputs inputs d order some fits =
    let low : length inputs ≤ (get_or inputs (length inputs - 1) d).position + 1 = last_position inputs d order some in
    let high : (get_or inputs (length inputs - 1) d).position < 2 ^ 16 = Fits-lt-pow fits in
    let few : length inputs < 2 ^ 32 = omega (arith, low, high) in
    Fits-of_lt few
