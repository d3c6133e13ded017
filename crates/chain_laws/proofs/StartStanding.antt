-- The starts of chains stand where the loader looks for them.
use Rattle.std.proofs.Common.{◌≡◌, ℕ, zero, suc, ◌+◌, ◌*◌, ◌%◌, ◌^◌, ◌<◌, ◌==◌, true, false, List, [], ◌∷◌, ◌++◌, length, get_or, refl, ap, arith}
use Rattle.mo_bytes.specs.Number.{number_bytes}
use Rattle.mo_bytes.proofs.Numbers.{length-number_bytes}
use Rattle.sect_place.specs.declared.layout.Segment.{Segment}
use Rattle.fixup_chain.specs.Places.{page_start, pages_of}
use Rattle.fixup_chain.specs.Starts.{offset_of, offsets_from, page_starts, part_of, parts_from, segment_bytes, zeros_to}
use Rattle.chain_laws.proofs.Standing.{Stands, stands_at, stands_as, stands_left, stands_right}

-- where the part of a segment is among the parts, by its index
abbrev pub part_place : List ℕ → ℕ → ℕ → List Segment → ℕ → ℕ
part_place addresses base at [] k = at
part_place addresses base at (s ∷ ss) zero = at
part_place addresses base at (s ∷ ss) (suc k) = part_place addresses base (at + length (part_of addresses base at s)) ss k

pub offset_stands : (image addresses : List ℕ) (base place at k : ℕ) (segments : List Segment) (d : Segment) → k < length segments → Stands image place (offsets_from addresses base at segments) → Stands image (place + 4 * k) (number_bytes 4 (offset_of addresses (part_place addresses base at segments k) (get_or segments k d) % 2 ^ 32))
unfolding offsets_from
offset_stands image addresses base place at k [] d within s = absurd (omega (arith, within))
offset_stands image addresses base place at zero (x ∷ xs) d within s =
    let same : place ≡ place + 4 * 0 = omega arith in
    stands_at image place (place + 4 * 0) (number_bytes 4 (offset_of addresses at x % 2 ^ 32)) same
    (stands_left image place (number_bytes 4 (offset_of addresses at x % 2 ^ 32)) (offsets_from addresses base (at + length (part_of addresses base at x)) xs) s)
offset_stands image addresses base place at (suc k) (x ∷ xs) d within s =
    let first = number_bytes 4 (offset_of addresses at x % 2 ^ 32) in
    let next = at + length (part_of addresses base at x) in
    let size : length first ≡ 4 = length-number_bytes 4 (offset_of addresses at x % 2 ^ 32) in
    let rest : Stands image (place + 4) (offsets_from addresses base next xs) = stands_right image place (place + 4) first (offsets_from addresses base next xs) (omega (arith, size)) s in
    let there : place + 4 + 4 * k ≡ place + 4 * suc k = omega arith in
    stands_at image (place + 4 + 4 * k) (place + 4 * suc k) (number_bytes 4 (offset_of addresses (part_place addresses base next xs k) (get_or xs k d) % 2 ^ 32)) there
    (offset_stands image addresses base (place + 4) next k xs d (omega (arith, within)) rest)

pub part_stands : (image addresses : List ℕ) (base table at k : ℕ) (segments : List Segment) (d : Segment) → k < length segments → Stands image (table + at) (parts_from addresses base at segments) → Stands image (table + part_place addresses base at segments k) (part_of addresses base (part_place addresses base at segments k) (get_or segments k d))
unfolding parts_from
part_stands image addresses base table at k [] d within s = absurd (omega (arith, within))
part_stands image addresses base table at zero (x ∷ xs) d within s = stands_left image (table + at) (part_of addresses base at x) (parts_from addresses base (at + length (part_of addresses base at x)) xs) s
part_stands image addresses base table at (suc k) (x ∷ xs) d within s =
    let next = at + length (part_of addresses base at x) in
    part_stands image addresses base table next k xs d (omega (arith, within))
    (stands_right image (table + at) (table + next) (part_of addresses base at x) (parts_from addresses base next xs) (omega arith) s)

-- a segment with pointers has its starts at the offset that is told for it
pub segment_stands : (image addresses : List ℕ) (base table at : ℕ) (segment : Segment) → (pages_of addresses segment == 0) ≡ false → Stands image (table + at) (part_of addresses base at segment) → Stands image (table + offset_of addresses at segment) (segment_bytes addresses base segment (pages_of addresses segment))
unfolding part_of offset_of
segment_stands image addresses base table at segment some s =
    let here : Stands image (table + at) (zeros_to 8 at ++ segment_bytes addresses base segment (pages_of addresses segment)) = rw some at s in
    rw some
    (stands_right image (table + at) (table + (at + length (zeros_to 8 at))) (zeros_to 8 at) (segment_bytes addresses base segment (pages_of addresses segment)) (omega arith) here)

pub offset_none : (addresses : List ℕ) (at : ℕ) (segment : Segment) → (pages_of addresses segment == 0) ≡ true → offset_of addresses at segment ≡ 0
unfolding offset_of
offset_none addresses at segment none = rw none refl

-- the starts of pages
pub page_stands : (image addresses : List ℕ) (place page count k : ℕ) → k < count → Stands image place (page_starts addresses page count) → Stands image (place + 2 * k) (number_bytes 2 (page_start addresses (page + k)))
unfolding page_starts
page_stands image addresses place page zero k within s = absurd (omega (arith, within))
page_stands image addresses place page (suc count) zero within s =
    let same : place ≡ place + 2 * 0 = omega arith in
    let also : page ≡ page + 0 = omega arith in
    stands_at image place (place + 2 * 0) (number_bytes 2 (page_start addresses (page + 0))) same
    (stands_as image place (number_bytes 2 (page_start addresses page)) (number_bytes 2 (page_start addresses (page + 0))) (ap (λ (p : ℕ). number_bytes 2 (page_start addresses p)) also)
    (stands_left image place (number_bytes 2 (page_start addresses page)) (page_starts addresses (page + 1) count) s))
page_stands image addresses place page (suc count) (suc k) within s =
    let first = number_bytes 2 (page_start addresses page) in
    let size : length first ≡ 2 = length-number_bytes 2 (page_start addresses page) in
    let rest : Stands image (place + 2) (page_starts addresses (page + 1) count) = stands_right image place (place + 2) first (page_starts addresses (page + 1) count) (omega (arith, size)) s in
    let there : place + 2 + 2 * k ≡ place + 2 * suc k = omega arith in
    let also : page + 1 + k ≡ page + suc k = omega arith in
    stands_at image (place + 2 + 2 * k) (place + 2 * suc k) (number_bytes 2 (page_start addresses (page + suc k))) there
    (stands_as image (place + 2 + 2 * k) (number_bytes 2 (page_start addresses (page + 1 + k))) (number_bytes 2 (page_start addresses (page + suc k))) (ap (λ (p : ℕ). number_bytes 2 (page_start addresses p)) also)
    (page_stands image addresses (place + 2) (page + 1) count k (omega (arith, within)) rest))
