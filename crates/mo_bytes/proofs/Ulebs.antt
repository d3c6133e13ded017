-- The shortest spelling of a number, what else spells it, and how it is read back.
use Rattle.std.proofs.Common.{◌≡◌, ℕ, zero, suc, ◌+◌, ◌-◌, ◌*◌, ◌/◌, ◌%◌, ◌^◌, ◌<◌, ◌≤◌, Bool, true, false, cond, ltb, leb, ◌&&◌, List, [], ◌∷◌, ◌++◌, length, take, drop, get_or, set, refl, sym, ◌∙◌, ap, ◌⊎◌, MatchOption, if◌then◌else◌, nat_le, nat_lt, slice_range, subst, inl, inr, arith, Option, Some, None, Result, Ok, Err, OnOk, is_ok, length-append, append_assoc, length-set, add-one}
use Rattle.std.specs.Option.{option_map, option_and_then}
use Rattle.std.proofs.lemmas.Bool.{cases_lt, cases_Bool, lt-ltb, le-ltb, le-leb, lt-leb, leb-true, and_parts}
use Rattle.std.proofs.lemmas.Nat.{mod_below, mul-le, pow-add, and_mask, or_comm, or_shifted}
use Rattle.std.proofs.lemmas.List.{drop_more, drop_all, drop_at, take_more_set, take-append-drop, length-take, length-take-le, length-drop, get_or-drop}
use Rattle.std.proofs.Math.Nat.{mul-le-mul_right, mod-eq_of_lt}
use Rattle.std.specs.Int.Bits.{bit_and, bit_or}
use Rattle.std.proofs.Math.Pow.{pow_mono}
use Rattle.mo_bytes.specs.Uleb.{IsUleb, uleb_front, short_uleb, uleb_at, uleb_within, uleb}

-- any bounds on the groups from the number on give one spelling
pub within_same : (j k n : ℕ) → n ≤ j → n ≤ k → uleb_within j n ≡ uleb_within k n
unfolding uleb_within
within_same zero zero n p q = refl
within_same zero (suc k) n p q = rw (lt-ltb n 128 (omega arith)) refl
within_same (suc j) zero n p q = rw (lt-ltb n 128 (omega arith)) refl
within_same (suc j) (suc k) n p q =
    elim (cases_lt n 128) [
      | inl less ↦ rw (lt-ltb n 128 less) refl
      | inr more ↦ rw (le-ltb n 128 more) (ap (λ (bs : List ℕ). (n % 128 + 128) ∷ bs) (within_same j k (n / 128) (omega arith) (omega arith)))
    ]

pub uleb_small : (n : ℕ) → n < 128 → uleb n ≡ n ∷ []
unfolding uleb uleb_within
uleb_small zero h = refl
uleb_small (suc n) h = rw (lt-ltb (suc n) 128 h) refl

pub uleb_large : (n : ℕ) → 128 ≤ n → uleb n ≡ (n % 128 + 128) ∷ uleb (n / 128)
unfolding uleb uleb_within
uleb_large zero h = absurd (omega arith)
uleb_large (suc n) h = rw (le-ltb (suc n) 128 h) (ap (λ (bs : List ℕ). (suc n % 128 + 128) ∷ bs) (within_same n (suc n / 128) (suc n / 128) (omega arith) (omega arith)))

-- one group before the spelling of the rest
pub is_uleb_more : (b n high : ℕ) (bs : List ℕ) → 128 ≤ b → b < 256 → n + 128 ≡ b + 128 * high → IsUleb bs high → IsUleb (b ∷ bs) n
is_uleb_more b n high [] p q e h = absurd h
is_uleb_more b n high (c ∷ bs) p q e h = (p, q, high, e, h)

is_uleb_within : (k n : ℕ) → n ≤ k → IsUleb (uleb_within k n) n
unfolding uleb_within
is_uleb_within zero n p = (omega arith, refl)
is_uleb_within (suc k) n p =
    elim (cases_lt n 128) [
      | inl less ↦ rw (lt-ltb n 128 less) (less, refl)
      | inr more ↦ rw (le-ltb n 128 more)
          (is_uleb_more (n % 128 + 128) n (n / 128) (uleb_within k (n / 128)) (omega arith) (omega arith) (omega arith)
          (is_uleb_within k (n / 128) (omega arith)))
    ]

pub is_uleb : (n : ℕ) → IsUleb (uleb n) n
unfolding uleb
is_uleb n = is_uleb_within n n (omega arith)

-- no spelling is shorter
pub uleb_least : (bytes : List ℕ) (n : ℕ) → IsUleb bytes n → length (uleb n) ≤ length bytes
uleb_least [] n h = absurd h
uleb_least (b ∷ []) n h = rw (uleb_small n (omega (arith, h.0, h.1))) (omega arith)
uleb_least (b ∷ c ∷ bs) n h =
    elim (cases_lt n 128) [
      | inl less ↦ rw (uleb_small n less) (omega arith)
      | inr more ↦
          let parts : n / 128 ≡ h.2 = omega (arith, h.0, h.1, h.3) in
          let rest : length (uleb h.2) ≤ length (c ∷ bs) = uleb_least (c ∷ bs) h.2 h.4 in
          rw (uleb_large n more) (rw parts (omega arith))
    ]

-- and no other is as short
pub uleb_only : (bytes : List ℕ) (n : ℕ) → IsUleb bytes n → length bytes ≤ length (uleb n) → bytes ≡ uleb n
uleb_only [] n h short = absurd h
uleb_only (b ∷ []) n h short = rw (uleb_small n (omega (arith, h.0, h.1))) (ap (λ (m : ℕ). m ∷ []) (sym h.1))
uleb_only (b ∷ c ∷ bs) n h short =
    elim (cases_lt n 128) [
      | inl less ↦ absurd (let few : length (uleb n) ≡ 1 = ap length (uleb_small n less) in omega arith)
      | inr more ↦
          let parts : n / 128 ≡ h.2 = omega (arith, h.0, h.1, h.3) in
          let low : n % 128 + 128 ≡ b = omega (arith, h.0, h.1, h.3) in
          let lens : length (uleb n) ≡ suc (length (uleb (n / 128))) = ap length (uleb_large n more) in
          let fits : length (c ∷ bs) ≤ length (uleb h.2) = rw (← parts) (omega arith) in
          let same : c ∷ bs ≡ uleb h.2 = uleb_only (c ∷ bs) h.2 h.4 fits in
          rw (uleb_large n more) (rw (parts, low, same) refl)
    ]

pub length-uleb_pos : (n : ℕ) → 0 < length (uleb n)
length-uleb_pos n =
    elim (cases_lt n 128) [
      | inl less ↦ rw (uleb_small n less) (omega arith)
      | inr more ↦ rw (uleb_large n more) (omega arith)
    ]

-- a greater number isn't spelled in fewer bytes
length-within_mono : (k m n : ℕ) → n ≤ k → m ≤ n → length (uleb m) ≤ length (uleb n)
length-within_mono zero m n p q = let e : m ≡ n = omega arith in rw e (omega arith)
length-within_mono (suc k) m n p q =
    elim (cases_lt m 128) [
      | inl less ↦ rw (uleb_small m less) (length-uleb_pos n)
      | inr more ↦
          let rest : length (uleb (m / 128)) ≤ length (uleb (n / 128)) = length-within_mono k (m / 128) (n / 128) (omega arith) (omega arith) in
          rw (uleb_large m more, uleb_large n (omega arith)) (omega arith)
    ]

pub length-uleb_mono : (m n : ℕ) → m ≤ n → length (uleb m) ≤ length (uleb n)
length-uleb_mono m n h = length-within_mono n m n (omega arith) h

-- a number below 128 ^ (groups + 1) takes no more than that many bytes and one
length-uleb_few : (groups n : ℕ) → n < 128 ^ suc groups → length (uleb n) ≤ suc groups
length-uleb_few zero n h = rw (uleb_small n (omega arith)) (omega arith)
length-uleb_few (suc groups) n h =
    elim (cases_lt n 128) [
      | inl less ↦ rw (uleb_small n less) (omega arith)
      | inr more ↦
          let below : n / 128 < 128 ^ suc groups = omega arith in
          let rest : length (uleb (n / 128)) ≤ suc groups = length-uleb_few groups (n / 128) below in
          rw (uleb_large n more) (omega arith)
    ]

pub length-uleb_most : (n : ℕ) → n < 2 ^ 64 → length (uleb n) ≤ 10
length-uleb_most n h = length-uleb_few 9 n (omega arith)

-- what is spelled is read, whatever follows
pub front_again : (bytes rest : List ℕ) (n : ℕ) → IsUleb bytes n → uleb_front (bytes ++ rest) ≡ Some (n, length bytes)
unfolding uleb_front
front_again [] rest n h = absurd h
front_again (b ∷ []) rest n h = rw (lt-ltb b 128 h.0) (ap (λ (m : ℕ). Some (m, 1)) (sym h.1))
front_again (b ∷ c ∷ bs) rest n h =
    let again : uleb_front (c ∷ bs ++ rest) ≡ Some (h.2, length (c ∷ bs)) = front_again (c ∷ bs) rest h.2 h.4 in
    let whole : b - 128 + 128 * h.2 ≡ n = omega (arith, h.0, h.3) in
    rw (le-ltb b 128 h.0) (rw again (rw whole (rw (add-one (length (c ∷ bs))) refl)))

-- what is read is spelled so
pub record Fronts (bytes : List ℕ) (n count : ℕ) : Type 0 where
  pub spelled : IsUleb (take count bytes) n
  pub within : count ≤ length bytes
  pub some : 0 < count

front_more : (b high count n total : ℕ) (bs : List ℕ) → 128 ≤ b → b < 256 → Fronts bs high count → n ≡ b - 128 + 128 * high → total ≡ suc count → Fronts (b ∷ bs) n total
front_more b high count n total bs p q f e t =
    subst (λ (k : ℕ). Fronts (b ∷ bs) n k) (sym t) (record {
      spelled = is_uleb_more b n high (take count bs) p q (omega arith) f.spelled;
      within = omega (arith, f.within);
      some = omega arith;
    })

pairs_of : (p q : ℕ × ℕ) → Some p ≡ Some q → p ≡ q
pairs_of p q e = cc

front_of_rest : (b n count : ℕ) (bs : List ℕ) → 128 ≤ b → b < 256 → (read : Option (ℕ × ℕ)) → ((high len : ℕ) → read ≡ Some (high, len) → Fronts bs high len) → option_map {U = ℕ × ℕ} (λ (high : ℕ × ℕ). (b - 128 + 128 * high.0, high.1 + 1)) read ≡ Some (n, count) → Fronts (b ∷ bs) n count
front_of_rest b n count bs more less None rest found = cc
front_of_rest b n count bs more less (Some (high, len)) rest found =
    let pairs = pairs_of _ _ found in
    let value : n ≡ b - 128 + 128 * high = sym (ap (λ (p : ℕ × ℕ). p.0) pairs) in
    let total : count ≡ len + 1 = sym (ap (λ (p : ℕ × ℕ). p.1) pairs) in
    front_more b high len n count bs more less (rest high len refl) value (omega arith)

pub front_spelled : (bytes : List ℕ) (n count : ℕ) → ((i : ℕ) → get_or bytes i 0 < 256) → uleb_front bytes ≡ Some (n, count) → Fronts bytes n count
unfolding uleb_front
front_spelled [] n count small e = cc
front_spelled (b ∷ bs) n count small e =
    elim (cases_lt b 128) [
      | inl less ↦
          let pairs = pairs_of (b, 1) (n, count) (rw (lt-ltb b 128 less) at e) in
          let value : n ≡ b = sym (ap (λ (p : ℕ × ℕ). p.0) pairs) in
          let one : count ≡ 1 = sym (ap (λ (p : ℕ × ℕ). p.1) pairs) in
          subst (λ (k : ℕ). Fronts (b ∷ bs) n k) (sym one) (record { spelled = (less, value); within = omega arith; some = omega arith })
      | inr more ↦
          let found : option_map {U = ℕ × ℕ} (λ (high : ℕ × ℕ). (b - 128 + 128 * high.0, high.1 + 1)) (uleb_front bs) ≡ Some (n, count) = rw (le-ltb b 128 more) at e in
          front_of_rest b n count bs more (small 0) (uleb_front bs) (λ high len h. front_spelled bs high len (λ i. small (suc i)) h) found
    ]

front_some_rest : (b : ℕ) (rest : Option (ℕ × ℕ)) → MatchOption (option_map {U = ℕ × ℕ} (λ (high : ℕ × ℕ). (b - 128 + 128 * high.0, high.1 + 1)) rest) (Unit {0}) (λ found. 0 < found.1)
front_some_rest b None = tt
front_some_rest b (Some (high, len)) = omega arith

-- a spelling has a byte
front_some : (bytes : List ℕ) → MatchOption (uleb_front bytes) (Unit {0}) (λ found. 0 < found.1)
unfolding uleb_front
front_some [] = tt
front_some (b ∷ bs) =
    elim (cases_lt b 128) [
      | inl less ↦ rw (lt-ltb b 128 less) (omega arith)
      | inr on ↦ rw (le-ltb b 128 on) (front_some_rest b (uleb_front bs))
    ]

-- ---- reading, one byte on

-- the rest, read after `count` bytes that stand for `value`
abbrev pub above : ℕ → ℕ → Option (ℕ × ℕ) → Option (ℕ × ℕ)
above value count rest = option_map (λ found. (value + 2 ^ (7 * count) * found.0, count + found.1)) rest

pub record IsReading (bytes : List ℕ) (value count : ℕ) : Type 0 where
  pub whole : uleb_front bytes ≡ above value count (uleb_front (drop count bytes))
  pub few : count ≤ 9
  pub small : value < 2 ^ (7 * count)

-- the groups so far and one more stay below 2^64
pub room : (b count : ℕ) → count ≤ 9 → b < 128 → (9 ≤ count → b ≤ 1) → b * 2 ^ (7 * count) + 2 ^ (7 * count) ≤ 2 ^ 64
room b count few less last =
    elim (cases_lt count 9) [
      | inl below ↦
          let unit : 2 ^ (7 * count) ≤ 2 ^ 56 = pow_mono {i = 7 * count} {j = 56} (omega arith) in
          let product : (b + 1) * 2 ^ (7 * count) ≤ 128 * 2 ^ 56 = mul-le (b + 1) (2 ^ (7 * count)) 128 (2 ^ 56) (omega arith) unit in
          omega arith
      | inr past ↦
          let nine : count ≡ 9 = omega arith in
          let one : b ≤ 1 = last past in
          rw nine (omega arith)
    ]

-- what stands at the place that is read next
pub record IsNext (bytes : List ℕ) (count b : ℕ) : Type 0 where
  pub at : b ≡ get_or bytes count 0
  pub within : count < length bytes
  pub byte : b < 256

next_is : (bytes : List ℕ) (count b : ℕ) → IsNext bytes count b → drop count bytes ≡ b ∷ drop (count + 1) bytes
next_is bytes count b next = let here : count < length bytes = next.within in rw next.at (drop_more bytes count 0 here)

-- the last byte
front_last : (bytes : List ℕ) (value count b : ℕ) → IsReading bytes value count → IsNext bytes count b → b < 128 → uleb_front bytes ≡ Some (value + 2 ^ (7 * count) * b, count + 1)
unfolding uleb_front
front_last bytes value count b reading next less =
    reading.whole ∙ rw (next_is bytes count b next) (rw (lt-ltb b 128 less) refl)

next_unit : (k : ℕ) → 2 ^ (7 * (k + 1)) ≡ 2 ^ (7 * k) * 128
next_unit k = let e : 7 * (k + 1) ≡ 7 * k + 7 = omega arith in rw e (pow-add 2 (7 * k) 7)

above_on : (value count b : ℕ) (rest : Option (ℕ × ℕ)) → above value count (option_map {U = ℕ × ℕ} (λ (high : ℕ × ℕ). (b - 128 + 128 * high.0, high.1 + 1)) rest) ≡ above (value + 2 ^ (7 * count) * (b - 128)) (count + 1) rest
above_on value count b None = refl
above_on value count b (Some (high, len)) =
    let sum : value + 2 ^ (7 * count) * (b - 128 + 128 * high) ≡ value + 2 ^ (7 * count) * (b - 128) + 2 ^ (7 * (count + 1)) * high = rw (next_unit count) (omega arith) in
    let place : count + (len + 1) ≡ count + 1 + len = omega arith in
    rw (sum, place) refl

-- one that isn't the last
front_on : (bytes : List ℕ) (value count b : ℕ) → IsReading bytes value count → IsNext bytes count b → 128 ≤ b → uleb_front bytes ≡ above (value + 2 ^ (7 * count) * (b - 128)) (count + 1) (uleb_front (drop (count + 1) bytes))
unfolding uleb_front
front_on bytes value count b reading next more =
    reading.whole ∙ rw (next_is bytes count b next) (rw (le-ltb b 128 more) (above_on value count b (uleb_front (drop (count + 1) bytes))))

-- the sum that the code makes of a group, which `low` is
pub record IsSum (value count low sum : ℕ) : Type 0 where
  pub is : sum ≡ value + 2 ^ (7 * count) * low
  pub small : sum < 2 ^ 64
  pub next : sum < 2 ^ (7 * (count + 1))

pub sum_is : (bytes : List ℕ) (value count low : ℕ) → IsReading bytes value count → low < 128 → (9 ≤ count → low ≤ 1) → IsSum value count low (value + low * 2 ^ (7 * count) % 2 ^ 64)
sum_is bytes value count low reading less last =
    let fits : low * 2 ^ (7 * count) + 2 ^ (7 * count) ≤ 2 ^ 64 = room low count reading.few less last in
    let whole : low * 2 ^ (7 * count) % 2 ^ 64 ≡ low * 2 ^ (7 * count) = mod-eq_of_lt {n = low * 2 ^ (7 * count)} {m = 2 ^ 64} (omega (arith, reading.small)) in
    let below : low * 2 ^ (7 * count) ≤ 127 * 2 ^ (7 * count) = mul-le-mul_right (2 ^ (7 * count)) (omega arith) in
    let unit : 2 ^ (7 * (count + 1)) ≡ 2 ^ (7 * count) * 128 = next_unit count in
    record { is = rw whole (omega arith); small = rw whole (omega (arith, reading.small)); next = rw (whole, unit) (omega (arith, reading.small)) }

pub low_bits : (b : ℕ) → bit_and b 127 ≡ b % 128
low_bits b = and_mask b 7

-- what the code's test lets through
pub low_fits : (b count low : ℕ) → low ≡ bit_and b 127 → (b ≤ 1) ⊎ (count < 9) → (low < 128) × (9 ≤ count → low ≤ 1)
low_fits b count low e (inl small) = (omega (arith, low_bits b), λ past. omega (arith, low_bits b))
low_fits b count low e (inr early) = (omega (arith, low_bits b), λ past. absurd (omega arith))

-- what the code answers at the last byte
pub read_last : (bytes : List ℕ) (value count b low sum : ℕ) → IsReading bytes value count → IsNext bytes count b → low ≡ bit_and b 127 → b < 128 → IsSum value count low sum → Some (sum, count + 1) ≡ short_uleb bytes
unfolding short_uleb
read_last bytes value count b low sum reading next e less is =
    let same : low ≡ b = e ∙ low_bits b ∙ mod-eq_of_lt less in
    let total : value + 2 ^ (7 * count) * b ≡ sum = rw (← same) (sym is.is) in
    rw (front_last bytes value count b reading next less) (rw total (rw (le-leb (count + 1) 10 (omega (arith, reading.few)), lt-ltb sum (2 ^ 64) is.small) refl))

-- and what it keeps at another
pub read_on : (bytes : List ℕ) (value count b low sum : ℕ) → IsReading bytes value count → IsNext bytes count b → low ≡ bit_and b 127 → 128 ≤ b → count ≤ 8 → IsSum value count low sum → IsReading bytes sum (count + 1)
read_on bytes value count b low sum reading next e more few is =
    let same : low ≡ b - 128 = e ∙ low_bits b ∙ omega (arith, next.byte) in
    let total : value + 2 ^ (7 * count) * (b - 128) ≡ sum = rw (← same) (sym is.is) in
    record {
      whole = front_on bytes value count b reading next more ∙ rw total refl;
      few = omega arith;
      small = is.next;
    }

-- the bytes end
pub read_end : (bytes : List ℕ) (value count : ℕ) → IsReading bytes value count → length bytes ≤ count → None ≡ short_uleb bytes
unfolding short_uleb uleb_front
read_end bytes value count reading past = rw (reading.whole, drop_all count bytes past) refl

none_of_and : (t : Bool) (p : ℕ × ℕ) → (let none : Option (ℕ × ℕ) = None in none) ≡ cond (t && false) (Some p) None
none_of_and true p = refl
none_of_and false p = refl

-- a tenth byte above 1 is one too many or too great
too_great : (value b : ℕ) (rest : Option (ℕ × ℕ)) → 2 ≤ b → MatchOption rest (Unit {0}) (λ found. (1 < found.1) ⊎ (2 ≤ found.0)) → None ≡ option_and_then (λ found. if nat_le found.1 10 && nat_lt found.0 (2 ^ 64) then Some found else None) (above value 9 rest)
too_great value b None more h = refl
too_great value b (Some (high, len)) more (inl long) = rw (lt-leb (9 + len) 10 (omega arith)) refl
too_great value b (Some (high, len)) more (inr great) =
    rw (le-ltb (value + 2 ^ 63 * high) (2 ^ 64) (omega arith)) (none_of_and (leb (9 + len) 10) (value + 2 ^ 63 * high, 9 + len))

long_or_great : (b : ℕ) (bs : List ℕ) → 2 ≤ b → MatchOption (uleb_front (b ∷ bs)) (Unit {0}) (λ found. (1 < found.1) ⊎ (2 ≤ found.0))
unfolding uleb_front
long_or_great b bs more =
    elim (cases_lt b 128) [
      | inl less ↦ rw (lt-ltb b 128 less) (inr more)
      | inr on ↦ rw (le-ltb b 128 on) (longer (uleb_front bs) (front_some bs))
    ]
  where
    longer : (rest : Option (ℕ × ℕ)) → MatchOption rest (Unit {0}) (λ found. 0 < found.1) → MatchOption (option_map {U = ℕ × ℕ} (λ (high : ℕ × ℕ). (b - 128 + 128 * high.0, high.1 + 1)) rest) (Unit {0}) (λ found. (1 < found.1) ⊎ (2 ≤ found.0))
    longer None h = tt
    longer (Some (high, len)) h = inl (omega arith)

pub read_tenth : (bytes : List ℕ) (value count b : ℕ) → IsReading bytes value count → IsNext bytes count b → 9 ≤ count → 1 < b → None ≡ short_uleb bytes
unfolding short_uleb
read_tenth bytes value count b reading next tenth more =
    let nine : count ≡ 9 = omega (arith, reading.few) in
    let here : uleb_front bytes ≡ above value 9 (uleb_front (b ∷ drop (count + 1) bytes)) = reading.whole ∙ rw (next_is bytes count b next) (rw nine refl) in
    rw here (too_great value b _ more (long_or_great b (drop (count + 1) bytes) more))

-- ---- writing

-- the loop that counts, one group on
pub counted_more : (rest total count : ℕ) → 128 ≤ rest → count + length (uleb rest) ≡ total + 1 → count + 1 + length (uleb (rest / 128)) ≡ total + 1
counted_more rest total count more e =
    let lens : length (uleb rest) ≡ suc (length (uleb (rest / 128))) = ap length (uleb_large rest more) in
    omega arith

pub counted_all : (rest total count : ℕ) → rest < 128 → count + length (uleb rest) ≡ total + 1 → count ≡ total
counted_all rest total count less e = let lens : length (uleb rest) ≡ 1 = ap length (uleb_small rest less) in omega arith

-- the byte that the code writes for a group
pub group_is : (rest : ℕ) → bit_or (bit_and rest 127) 128 ≡ rest % 128 + 128
group_is rest =
    rw (low_bits rest) (or_comm (rest % 128) 128 ∙ or_shifted 1 7 (rest % 128) (mod_below rest 128 (omega arith)) ∙ omega arith)

-- the bytes that are written, and the spelling of the rest after them
pub record IsSpelling (bytes : List ℕ) (value count rest : ℕ) : Type 0 where
  pub whole : take count bytes ++ uleb rest ≡ uleb value
  pub all : length bytes ≡ 10
  pub few : length (uleb value) ≤ 10

pub spelled_within : (bytes : List ℕ) (value count rest : ℕ) → IsSpelling bytes value count rest → count ≤ 10 → count < 10
spelled_within bytes value count rest s few =
    let lens : length (take count bytes ++ uleb rest) ≡ length (uleb value) = ap length s.whole in
    let front : length (take count bytes) ≡ count = length-take-le count bytes (omega (arith, s.all)) in
    let some : 0 < length (uleb rest) = length-uleb_pos rest in
    omega (arith, length-append (take count bytes) (uleb rest), s.few)

pub spelled_more : (bytes : List ℕ) (value count rest : ℕ) → IsSpelling bytes value count rest → count < 10 → 128 ≤ rest → IsSpelling (set bytes count (bit_or (bit_and rest 127) 128)) value (count + 1) (rest / 128)
spelled_more bytes value count rest s within more =
    let here : count < length bytes = omega (arith, s.all) in
    record {
      whole = rw (take_more_set bytes count (bit_or (bit_and rest 127) 128) here, group_is rest) (append_assoc (take count bytes) _ _ ∙ rw (← uleb_large rest more) s.whole);
      all = length-set bytes count _ ∙ s.all;
      few = s.few;
    }

pub spelled_last : (bytes : List ℕ) (value count rest : ℕ) → IsSpelling bytes value count rest → count < 10 → rest < 128 → take (count + 1) (set bytes count rest) ≡ uleb value
spelled_last bytes value count rest s within less =
    let here : count < length bytes = omega (arith, s.all) in
    rw (take_more_set bytes count rest here, ← uleb_small rest less) s.whole

-- ---- the clauses

-- what is written is read back, whatever stands before and after it
pub uleb_stands : (bytes tail : List ℕ) (at n : ℕ) → n < 2 ^ 64 → drop at bytes ≡ uleb n ++ tail → uleb_at bytes at ≡ Some (n, at + length (uleb n))
unfolding uleb_at short_uleb
uleb_stands bytes tail at n small e =
    rw (e, front_again (uleb n) tail n (is_uleb n), le-leb (length (uleb n)) 10 (length-uleb_most n small), lt-ltb n (2 ^ 64) small) refl

-- what `uleb_read` says of the number that it finds
pub record IsFound (bytes : List ℕ) (at value count : ℕ) : Type 0 where
  pub exact : Some (value, at + count) ≡ uleb_at bytes at
  pub spelled : IsUleb (slice_range bytes at (at + count)) value
  pub some : 0 < count
  pub few : count ≤ 10
  pub within : at + count ≤ length bytes

short_parts : (front : Option (ℕ × ℕ)) (value count : ℕ) → Some (value, count) ≡ option_and_then (λ found. if nat_le found.1 10 && nat_lt found.0 (2 ^ 64) then Some found else None) front → (front ≡ Some (value, count)) × (count ≤ 10)
short_parts None value count e = absurd (some_none (value, count) e)
  where
    some_none : (p : ℕ × ℕ) → Some p ≡ None → ⊥
    some_none p e = cc
short_parts (Some (n, len)) value count e =
    elim (cases_Bool (leb len 10 && ltb n (2 ^ 64))) [
      | inl fits ↦
          let found : Some (value, count) ≡ Some (n, len) = rw fits at e in
          let parts = and_parts (leb len 10) (ltb n (2 ^ 64)) fits in
          let few : len ≤ 10 = leb-true len 10 parts.0 in
          let same : count ≡ len = ap (λ (p : ℕ × ℕ). p.1) (pairs_of _ _ found) in
          (sym found, rw same few)
      | inr fails ↦ absurd (some_none (value, count) (rw fails at e))
    ]
  where
    some_none : (p : ℕ × ℕ) → Some p ≡ None → ⊥
    some_none p e = cc

pub found_is : (bytes piece : List ℕ) (at value count : ℕ) → ((i : ℕ) → get_or bytes i 0 < 256) → at ≤ length bytes → piece ≡ drop at bytes → Some (value, count) ≡ short_uleb piece → IsFound bytes at value count
unfolding short_uleb uleb_at
found_is bytes piece at value count small within e found =
    let here : Some (value, count) ≡ short_uleb (drop at bytes) = rw e at found in
    let parts = short_parts (uleb_front (drop at bytes)) value count here in
    let fronts = front_spelled (drop at bytes) value count (λ i. rw (get_or-drop at bytes i 0) (small (at + i))) parts.0 in
    let size : at + count - at ≡ count = omega arith in
    record {
      exact = rw (← here) refl;
      spelled = rw size fronts.spelled;
      some = fronts.some;
      few = parts.1;
      within = omega (arith, fronts.within, length-drop at bytes);
    }

pub none_is : (bytes piece : List ℕ) (at : ℕ) → piece ≡ drop at bytes → None ≡ short_uleb piece → None ≡ uleb_at bytes at
unfolding uleb_at
none_is bytes piece at e none = let here : None ≡ short_uleb (drop at bytes) = rw e at none in rw (← here) refl

pub past_is : (bytes : List ℕ) (at : ℕ) → length bytes ≤ at → None ≡ uleb_at bytes at
unfolding uleb_at short_uleb uleb_front
past_is bytes at past = rw (drop_all at bytes past) refl

-- and of the place where it finds none
pub none_stands : (bytes : List ℕ) (at n next : ℕ) → None ≡ uleb_at bytes at → n < 2 ^ 64 → next ≤ at + 10 → IsUleb (slice_range bytes at next) n → ⊥
unfolding uleb_at short_uleb
none_stands bytes at n next none small near spelled =
    let text : take (next - at) (drop at bytes) ++ drop (next - at) (drop at bytes) ≡ drop at bytes = take-append-drop (next - at) (drop at bytes) in
    let again = front_again (take (next - at) (drop at bytes)) (drop (next - at) (drop at bytes)) n spelled in
    let front : uleb_front (drop at bytes) ≡ Some (n, length (take (next - at) (drop at bytes))) = rw text at again in
    let few : length (take (next - at) (drop at bytes)) ≤ 10 = omega (arith, length-take (next - at) (drop at bytes)) in
    none_some _ (rw (front, le-leb _ 10 few, lt-ltb n (2 ^ 64) small) at none)
  where
    none_some : (p : ℕ × ℕ) → None ≡ Some p → ⊥
    none_some p e = cc

pub read_back : (old new rest : List ℕ) (n : ℕ) → n < 2 ^ 64 → new ≡ old ++ uleb n → uleb_at (new ++ rest) (length old) ≡ Some (n, length new)
read_back old new rest n small e =
    let after : drop (length old) (new ++ rest) ≡ uleb n ++ rest = rw (e, append_assoc old (uleb n) rest) (drop_at old (uleb n ++ rest) (length old) refl) in
    uleb_stands (new ++ rest) rest (length old) n small after ∙ rw (e, length-append old (uleb n)) refl

pub read_back_on : {T E : Type 0} (r : Result T E) (old new piece : List ℕ) (n from to : ℕ) → n < 2 ^ 64 → piece ≡ uleb n → new ≡ cond (is_ok r) (old ++ piece) old → from ≡ length old → to ≡ length new → OnOk r ((rest : List ℕ) → uleb_at (new ++ rest) from ≡ Some (n, to))
read_back_on (Ok _) old new piece n from to small e is at end = rw (at, end) (λ rest. read_back old new rest n small (is ∙ ap (λ bytes. old ++ bytes) e))
read_back_on (Err _) old new piece n from to small e is at end = tt
