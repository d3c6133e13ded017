-- The groups of sleb128.
use Rattle.std.proofs.Common.{◌≡◌, ℕ, zero, suc, ◌+◌, ◌-◌, ◌*◌, ◌^◌, ◌<◌, ◌≤◌, List, [], ◌∷◌, length, Option, Some, None, if◌then◌else◌, nat_le, get_or, take, drop, refl, sym, ◌∙◌, ap, inl, inr, arith}
use Rattle.std.specs.Prelude.{ℤ, pos, negsuc, ◌-ℤ◌}
use Rattle.std.specs.Option.{option_map, option_and_then}
use Rattle.std.proofs.lemmas.Nat.{pow-add}
use Rattle.std.proofs.lemmas.List.{take_all, drop_all}
use Rattle.std.proofs.lemmas.Bool.{cases_lt, lt-ltb, le-ltb, le-leb, lt-leb}
use Rattle.std.proofs.Math.Pow.{pow_mono}
use Rattle.mo_bytes.specs.Uleb.{uleb_front}
use Rattle.dyld_ops.specs.Sleb.{AreGroups, groups_within, sleb_at}

next_unit : (k : ℕ) → 2 ^ (7 * (k + 1)) ≡ 2 ^ (7 * k) * 128
next_unit k = let e : 7 * (k + 1) ≡ 7 * k + 7 = omega arith in rw e (pow-add 2 (7 * k) 7)

pub ten_groups : (k : ℕ) → k ≤ 10 → 2 ^ (7 * k) ≤ 2 ^ 70
ten_groups k few = pow_mono {i = 7 * k} {j = 70} (omega arith)

-- groups that are counted, where they are no more than so many
abbrev counted : ℕ → Option (ℕ × ℕ) → Option (ℕ × ℕ)
counted most found = option_and_then (λ found. if nat_le found.1 most then Some found else None) found

abbrev more : ℕ → ℕ × ℕ → ℕ × ℕ
more b high = (b - 128 + 128 * high.0, high.1 + 1)

counted_more : (most b : ℕ) (rest : Option (ℕ × ℕ)) → 0 < most → counted most (option_map {U = ℕ × ℕ} (more b) rest) ≡ option_map {U = ℕ × ℕ} (more b) (counted (most - 1) rest)
counted_more most b None some = refl
counted_more most b (Some (high, count)) some =
    elim (cases_lt (most - 1) count) [
      | inl past ↦ rw (lt-leb (count + 1) most (omega arith), lt-leb count (most - 1) past) refl
      | inr fits ↦ rw (le-leb (count + 1) most (omega arith), le-leb count (most - 1) fits) refl
    ]

pub groups_last : (most b : ℕ) (bs : List ℕ) → 0 < most → b < 128 → groups_within most (b ∷ bs) ≡ Some (b, 1)
unfolding groups_within uleb_front
groups_last most b bs some last = rw (lt-ltb b 128 last) (rw (le-leb 1 most (omega arith)) refl)

pub groups_more : (most b : ℕ) (bs : List ℕ) → 0 < most → 128 ≤ b → groups_within most (b ∷ bs) ≡ option_map (λ high. (b - 128 + 128 * high.0, high.1 + 1)) (groups_within (most - 1) bs)
unfolding groups_within uleb_front
groups_more most b bs some on = rw (le-ltb b 128 on) (counted_more most b (uleb_front bs) some)

pub groups_empty : (most : ℕ) → groups_within most [] ≡ None
unfolding groups_within uleb_front
groups_empty most = refl

counted_none : (b : ℕ) (rest : Option (ℕ × ℕ)) → counted 0 (option_map {U = ℕ × ℕ} (more b) rest) ≡ None
counted_none b None = refl
counted_none b (Some (high, count)) = rw (lt-leb (count + 1) 0 (omega arith)) refl

pub groups_none : (bytes : List ℕ) → groups_within 0 bytes ≡ None
unfolding groups_within uleb_front
groups_none [] = refl
groups_none (b ∷ bs) =
    elim (cases_lt b 128) [
      | inl last ↦ rw (lt-ltb b 128 last) refl
      | inr on ↦ rw (le-ltb b 128 on) (counted_none b (uleb_front bs))
    ]

-- what follows the first byte, as the code sees it
rest_is : (b : ℕ) (bs : List ℕ) → take (length (b ∷ bs) - 1) (drop 1 (b ∷ bs)) ≡ bs
rest_is b bs = take_all (length (b ∷ bs) - 1) bs (omega arith)

pub group_stops : (most : ℕ) (bytes : List ℕ) (n : ℕ) → 0 < most → 1 ≤ length bytes → n ≡ get_or bytes 0 0 → n < 128 → Some (n, 1) ≡ groups_within most bytes
group_stops most [] n some within is last = absurd (omega arith)
group_stops most (b ∷ bs) n some within is last = rw is (sym (groups_last most b bs some (omega arith)))

pub group_fails : (most : ℕ) (bytes : List ℕ) → 0 < most → 1 ≤ length bytes → 128 ≤ get_or bytes 0 0 → None ≡ groups_within (most - 1) (take (length bytes - 1) (drop 1 bytes)) → None ≡ groups_within most bytes
group_fails most [] some within on none = absurd (omega arith)
group_fails most (b ∷ bs) some within on none =
    let rest : None ≡ groups_within (most - 1) bs = none ∙ ap (groups_within (most - 1)) (rest_is b bs) in
    rw (groups_more most b bs some on, ← rest) refl

pub group_goes : (most : ℕ) (bytes : List ℕ) (low high count : ℕ) → 0 < most → 1 ≤ length bytes → 128 ≤ get_or bytes 0 0 → low ≡ get_or bytes 0 0 - 128 → Some (high, count) ≡ groups_within (most - 1) (take (length bytes - 1) (drop 1 bytes)) → Some (low + 128 * high, count + 1) ≡ groups_within most bytes
group_goes most [] low high count some within on is found = absurd (omega arith)
group_goes most (b ∷ bs) low high count some within on is found =
    let rest : Some (high, count) ≡ groups_within (most - 1) bs = found ∙ ap (groups_within (most - 1)) (rest_is b bs) in
    rw (groups_more most b bs some on, ← rest, is) refl

pub groups_short : (most : ℕ) (bytes : List ℕ) → length bytes < 1 → None ≡ groups_within most bytes
groups_short most [] short = sym (groups_empty most)
groups_short most (b ∷ bs) short = absurd (omega arith)

pub groups_zero : (most : ℕ) (bytes : List ℕ) → most ≤ 0 → None ≡ groups_within most bytes
groups_zero most bytes none = let e : most ≡ 0 = omega arith in rw e (sym (groups_none bytes))

pub are_groups_last : (most : ℕ) (bytes : List ℕ) (n : ℕ) → 0 < most → 1 ≤ length bytes → n < 128 → AreGroups most bytes (n, 1)
are_groups_last most bytes n some within last = record { some = omega arith; few = omega arith; within = omega arith; small = omega arith }

pub are_groups_more : (most : ℕ) (bytes : List ℕ) (low high count : ℕ) → 0 < most → 1 ≤ length bytes → low < 128 → AreGroups (most - 1) (take (length bytes - 1) (drop 1 bytes)) (high, count) → AreGroups most bytes (low + 128 * high, count + 1)
are_groups_more most [] low high count some within byte rest = absurd (omega arith)
are_groups_more most (b ∷ bs) low high count some within byte rest =
    let less : count ≤ length bs = rw (rest_is b bs) at rest.within in
    record {
      some = omega arith;
      few = omega (arith, rest.few);
      within = omega (arith, less);
      small = omega (arith, rest.small, next_unit count);
    }

-- the sum that the code makes has 128 bits
pub sum_fits : (most high count : ℕ) (bs : List ℕ) → most ≤ 10 → AreGroups most bs (high, count) → high < 2 ^ 70
sum_fits most high count bs few groups = omega (arith, groups.small, ten_groups count (omega (arith, groups.few)))

pub ruleset groups = (group_stops, groups_short, groups_zero, are_groups_last, are_groups_more, sum_fits)

-- sleb_at
pub sleb_past : (bytes : List ℕ) (at : ℕ) → length bytes < at → None ≡ sleb_at bytes at
unfolding sleb_at
sleb_past bytes at past = rw (drop_all at bytes (omega arith), groups_empty 10) refl

pub below_zero : (n : ℕ) → negsuc 0 -ℤ pos n ≡ negsuc n
below_zero zero = refl
below_zero (suc n) = let e : 0 + n ≡ n = omega arith in rw e refl

pub ruleset signs = (below_zero, ten_groups)
