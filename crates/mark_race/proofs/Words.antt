-- Bits of words, one more set.
use Rattle.std.proofs.Common.{◌≡◌, ◌≢◌, ℕ, zero, suc, ◌+◌, ◌*◌, ◌/◌, ◌%◌, ◌^◌, ◌<◌, ◌≤◌, Bool, true, false, List, [], ◌∷◌, ◌++◌, length, take, replicate, get_or, set, cond, refl, sym, ◌∙◌, ap, subst, ⊎_elim, arith, get_or-set_same, get_or-set_other}
use Rattle.std.specs.Prelude.{◌==◌, ◌&&◌, nat_lt, bit_or, bit_and, nat_eq}
use Rattle.std.proofs.lemmas.List.{length-set}
use Rattle.std.specs.Int.{bit_at}
use Rattle.std.proofs.lemmas.Bool.{cases_eq}
use Rattle.std.proofs.lemmas.Bool.Decides.{nat_tests}
use Rattle.std.proofs.lemmas.Nat.{one_shl, pow_pos}
use native.Mathlib.Nat.{zero-mul, suc-mul}
use Rattle.std.proofs.lemmas.Nat.Bits.{bit_at_or, bit_at-zero, bit_at-lt, bit_at-pow_same, bit_at-pow_other, and_pow}
use Rattle.std.proofs.Math.Seq.{take-append_seam}
use mathlib.Core.Option.{some, some-injective, some-ne-none}
use lib.ListN.{get_elem?}
use Rattle.mark_race.specs.Marks.{at_start}
use Rattle.mark_race.specs.Rule.{IsNoted, IsPacked, bit_of}

-- once at the atom itself
pub hit : (x : ℕ) → ◌≡◌ {A = ℕ} (cond (x == x) 1 0) 1
hit x = grind (arith, nat_tests)

pub miss : (y x : ℕ) → y ≢ x → ◌≡◌ {A = ℕ} (cond (y == x) 1 0) 0
miss y x apart = grind (arith, nat_tests)

-- the bit of an atom is set, and others stay
pub set_same : (words : List ℕ) (atom : ℕ) → atom / 64 < length words → bit_of (set words (atom / 64) (bit_or (get_or words (atom / 64) 0) (2 ^ (atom % 64)))) atom ≡ 1
set_same words atom near =
    let k : ℕ = atom % 64 in
    let old : ℕ = get_or words (atom / 64) 0 in
    ap (λ n. bit_at n k) (get_or-set_same words (atom / 64) (bit_or old (2 ^ k)) 0 near) ∙ omega (arith, bit_at_or old (2 ^ k) k, bit_at-pow_same k, bit_at-lt old k)

pub set_apart : (words : List ℕ) (atom other : ℕ) → atom / 64 < length words → other ≢ atom → bit_of (set words (atom / 64) (bit_or (get_or words (atom / 64) 0) (2 ^ (atom % 64)))) other ≡ bit_of words other
set_apart words atom other near apart =
    let w : ℕ = atom / 64 in
    let k : ℕ = atom % 64 in
    let old : ℕ = get_or words w 0 in
    let new : ℕ = bit_or old (2 ^ k) in
    ⊎_elim
    (λ (same : other / 64 ≡ w).
    let far : other % 64 ≢ k = λ e. apart (omega arith) in
    ap (λ i. bit_at (get_or (set words w new) i 0) (other % 64)) same
    ∙ (ap (λ n. bit_at n (other % 64)) (get_or-set_same words w new 0 near)
    ∙ (omega (arith, bit_at_or old (2 ^ k) (other % 64), bit_at-pow_other k (other % 64) far) ∙ ap (λ i. bit_at (get_or words i 0) (other % 64)) (sym same))))
    (λ (else : other / 64 ≢ w). ap (λ n. bit_at n (other % 64)) (get_or-set_other words w (other / 64) new 0 else))
    (cases_eq (other / 64) w)

-- ---- the words at the start

pub below_none : (atom : ℕ) (b : Bool) → cond {A = ℕ} (nat_lt atom 0 && b) 1 0 ≡ 0
below_none atom b = grind (arith, nat_tests)

bits_none : (n atom : ℕ) (words : List ℕ) → ((i : ℕ) → get_or words i 0 ≡ 0) → bit_of words atom ≡ 0
bits_none n atom words zeros = ap (λ m. bit_at m (atom % 64)) (zeros (atom / 64)) ∙ bit_at-zero (atom % 64)

pub packed_start : (start : List Bool) (words : List ℕ) → length words ≡ length start / 64 + 1 → ((i : ℕ) → get_or words i 0 ≡ 0) → IsPacked start words 0
packed_start start words long zeros = record { long = long; bits = λ atom. bits_none 0 atom words zeros ∙ sym (below_none atom (at_start start atom)) }

more_same : (n : ℕ) (is b : Bool) → is ≡ b → cond {A = ℕ} (nat_lt n (n + 1) && b) 1 0 ≡ cond is 1 (cond (nat_lt n n && b) 1 0)
more_same n true b e = grind (arith, nat_tests)
more_same n false b e = grind (arith, nat_tests)

pub more_apart : (atom n : ℕ) (b : Bool) → atom ≢ n → cond {A = ℕ} (nat_lt atom (n + 1) && b) 1 0 ≡ cond (nat_lt atom n && b) 1 0
more_apart atom n b apart = grind (arith, nat_tests)

pub noted_set : (words new : List ℕ) (atom bit : ℕ) (on : Bool) → on ≡ true → atom / 64 < length words → bit ≡ 2 ^ (atom % 64) → new ≡ set words (atom / 64) (bit_or (get_or words (atom / 64) 0) bit) → IsNoted words new atom on
noted_set words new atom bit on yes_it near is made =
    let e : new ≡ set words (atom / 64) (bit_or (get_or words (atom / 64) 0) (2 ^ (atom % 64))) = made ∙ ap (λ b. set words (atom / 64) (bit_or (get_or words (atom / 64) 0) b)) is in
    subst (λ b. IsNoted words new atom b) (sym yes_it)
    (subst (λ ws. IsNoted words ws atom true) (sym e) record {
      long = length-set words (atom / 64) (bit_or (get_or words (atom / 64) 0) (2 ^ (atom % 64)));
      own = set_same words atom near;
      others = λ other apart. set_apart words atom other near apart;
    })

pub noted_not : (words : List ℕ) (atom : ℕ) → IsNoted words words atom false
noted_not words atom = record { long = refl; own = refl; others = λ other apart. refl }

pub packed_more : (start : List Bool) (words new : List ℕ) (n : ℕ) (is : Bool) → IsPacked start words n → is ≡ at_start start n → IsNoted words new n is → IsPacked start new (n + 1)
packed_more start words new n is so there noted = record {
  long = noted.long ∙ so.long;
  bits = λ atom. ⊎_elim
      (λ (same : atom ≡ n). subst (λ x. bit_of new x ≡ cond (nat_lt x (n + 1) && at_start start x) 1 0) (sym same) (noted.own ∙ (ap (λ m. cond is 1 m) (so.bits n) ∙ sym (more_same n is (at_start start n) there))))
      (λ (apart : atom ≢ n). noted.others atom apart ∙ (so.bits atom ∙ sym (more_apart atom n (at_start start atom) apart)))
      (cases_eq atom n);
}

pub below_all : (atom n : ℕ) (b : Bool) → atom < n → cond {A = ℕ} (nat_lt atom n && b) 1 0 ≡ cond b 1 0
below_all atom n true low = grind (arith, nat_tests)
below_all atom n false low = grind (arith, nat_tests)

pub packed_end : (start : List Bool) (words : List ℕ) (n : ℕ) → length start ≤ n → IsPacked start words n → (atom : ℕ) → atom < length start → bit_of words atom ≡ cond (at_start start atom) 1 0
packed_end start words n past so atom low = so.bits atom ∙ below_all atom n (at_start start atom) (omega arith)

-- ---- one bit that is looked at

pub bit_found : (found k : ℕ) → k < 64 → nat_eq (bit_and found (1 * 2 ^ k % 2 ^ 64)) 0 ≡ nat_eq (bit_at found k) 0
bit_found found k low = ap (λ m. nat_eq (bit_and found m) 0) (one_shl k 64 low) ∙ (ap (λ n. nat_eq n 0) (and_pow found k) ∙ product (bit_at found k) (2 ^ k) (pow_pos k))
  where
    product : (b p : ℕ) → 0 < p → nat_eq (b * p) 0 ≡ nat_eq b 0
    product zero p pos = ap (λ n. nat_eq n 0) (zero-mul p)
    product (suc b) p pos = let h : 0 < suc b * p = omega (arith, suc-mul b p) in grind (arith, nat_tests)

-- ---- words that are read

pub get_or_at : (xs : List ℕ) (i r d : ℕ) → get_elem? xs i ≡ some r → get_or xs i d ≡ r
get_or_at [] i r d at = absurd (some-ne-none r (sym at))
get_or_at (x ∷ xs) zero r d at = some-injective x r at
get_or_at (x ∷ xs) (suc i) r d at = get_or_at xs i r d at

pub front_is : {X : Type 0} (len : ℕ) (into rest : List X) → len ≡ length into → take len (into ++ rest) ≡ into
front_is len into rest is = ap (λ (n : ℕ). take n (into ++ rest)) is ∙ take-append_seam into rest

zeros : (n i : ℕ) → get_or {A = ℕ} (replicate n 0) i 0 ≡ 0
zeros zero i = refl
zeros (suc n) zero = refl
zeros (suc n) (suc i) = zeros n i

pub packed_none : (start : List Bool) (words : List ℕ) (n : ℕ) → words ≡ replicate n 0 → length words ≡ length start / 64 + 1 → IsPacked start words 0
packed_none start words n is long = packed_start start words long (λ i. ap (λ (l : List ℕ). get_or l i 0) is ∙ zeros n i)

pub ruleset packing = (packed_more, noted_not)
