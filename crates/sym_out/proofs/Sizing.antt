-- The sizes of strings, added up.
use Rattle.std.proofs.Common.{◌≡◌, ℕ, ◌+◌, ◌-◌, ◌*◌, ◌%◌, ◌<◌, ◌≤◌, ◌^◌, List, [], ◌∷◌, ◌++◌, length, map, take, get_or, replicate, refl, sym, ap, ◌∙◌, arith}
use Rattle.std.specs.List.{flat_map, sum_by}
use Rattle.std.proofs.lemmas.List.{length-append, length-replicate, take_all}
use Rattle.std.proofs.lemmas.List.Sums.{sum_by-append, sum_by-cons, sum_by_more}
use Rattle.sym_out.specs.Entries.{Entry, string_of, strings_bytes}
use Rattle.sym_out.specs.Sizes.{padded_size, string_size, strings_size}
use Rattle.sym_out.specs.Symbols.{Ranges, entries_of}

-- ---- a loop that adds up numbers up to 2^64

pub record IsSumming {X : Type 0} (f : X → ℕ) (xs : List X) (at total : ℕ) : Type 0 where
  pub first : total ≡ sum_by f (take at xs)
  pub small : total ≤ at * 2 ^ 64

pub summing_starts : {X : Type 0} (f : X → ℕ) (xs : List X) → IsSumming f xs 0 0
summing_starts f xs = record { first = refl; small = omega arith }

pub summing_goes_on : {X : Type 0} (f : X → ℕ) (xs : List X) (at total new y : ℕ) (x : X) → IsSumming f xs at total → at < length xs → x ≡ get_or xs at x → y ≡ f x → y ≤ 2 ^ 64 → new ≡ total + y → IsSumming f xs (at + 1) new
summing_goes_on f xs at total new y x summing within is same low e =
    let more : sum_by f (take (at + 1) xs) ≡ sum_by f (take at xs) + f (get_or xs at x) = sum_by_more f xs at x within in
    let value : y ≡ f (get_or xs at x) = same ∙ ap f is in
    record {
      first = (let r = summing.first in omega arith);
      small = (let s = summing.small in omega arith);
    }

pub summing_ends : {X : Type 0} (f : X → ℕ) (xs : List X) (at total : ℕ) → IsSumming f xs at total → length xs ≤ at → total ≡ sum_by f xs
summing_ends {X} f xs at total summing past = summing.first ∙ ap (λ (ys : List X). sum_by f ys) (take_all at xs past)

pub ruleset summing = (summing_starts, summing_goes_on, summing_ends)

-- ---- strings

pub sum_mapped : {X : Type 0} (f : X → Entry) (xs : List X) → sum_by (λ x. string_size (f x)) xs ≡ strings_size (map f xs)
sum_mapped f [] = refl
sum_mapped f (x ∷ xs) =
    sum_by-cons (λ y. string_size (f y)) x xs
    ∙ ap (λ (n : ℕ). string_size (f x) + n) (sum_mapped f xs)
    ∙ sym (sum_by-cons string_size (f x) (map f xs))

strings_length : (entries : List Entry) → length (flat_map string_of entries) ≡ strings_size entries
strings_length [] = refl
strings_length (x ∷ xs) =
    let both = length-append (string_of x) (flat_map string_of xs) in
    let one = length-append x.name (0 ∷ []) in
    let rest = strings_length xs in
    let all : strings_size (x ∷ xs) ≡ string_size x + strings_size xs = sum_by-cons string_size x xs in
    omega (arith, both, one, rest, all)

of_ranges : (ranges : Ranges) → strings_size (entries_of ranges) ≡ strings_size ranges.locals + strings_size ranges.exported + strings_size ranges.undefined
of_ranges ranges =
    sum_by-append string_size (ranges.locals ++ ranges.exported) ranges.undefined
    ∙ ap (λ (n : ℕ). n + strings_size ranges.undefined) (sum_by-append string_size ranges.locals ranges.exported)

pub strings_have_size : (ranges : Ranges) → length (strings_bytes (entries_of ranges)) ≡ padded_size (1 + strings_size ranges.locals + strings_size ranges.exported + strings_size ranges.undefined)
unfolding strings_bytes
strings_have_size ranges =
    let strings : List ℕ = 0 ∷ flat_map string_of (entries_of ranges) in
    let size : length strings ≡ 1 + strings_size ranges.locals + strings_size ranges.exported + strings_size ranges.undefined =
    (let all = strings_length (entries_of ranges) in let each = of_ranges ranges in omega (arith, all, each)) in
    length-append strings (replicate ((8 - length strings % 8) % 8) 0)
    ∙ ap (λ (n : ℕ). length strings + n) (length-replicate ((8 - length strings % 8) % 8) 0)
    ∙ ap padded_size size
