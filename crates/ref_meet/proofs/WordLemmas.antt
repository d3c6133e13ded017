-- The word that stands at an address.
use Rattle.std.proofs.Common.{◌≡◌, ℕ, ◌<◌, List, Option, Some, None, length, get_or, ◌+◌, slice_get, refl, sym, ap, ◌∙◌, ◌⊎◌, ◌≤◌, inl, inr, arith, All}
use Rattle.std.specs.List.{HoldsAt}
use Rattle.std.specs.List.Sorted.{IsNonDecreasingBy, IsPartitionPoint}
use Rattle.std.specs.Option.{option_map}
use Rattle.std.specs.declared.cmp.Ordering.TheVariants.{Less, Equal, Greater}
use Rattle.std.specs.declared.cmp.Ordering.{Ordering}
use Rattle.std.specs.Ordering.{MatchOrdering, nat_cmp, on, ordering_index}
use Rattle.std.proofs.lemmas.Bool.{cases_eq}
use Rattle.std.proofs.lemmas.Cmp.{ranked}
use Rattle.std.proofs.lemmas.List.{get_or_default}
use Rattle.list_lemmas.proofs.Rising.{rising_at}
use Rattle.std.proofs.lemmas.Option.{slice_get-get_or, slice_get_cases, slice_get_within}
use Rattle.list_lemmas.proofs.Ties.{same_number}
use Rattle.fixup_chain.specs.declared.chains.ChainWord.{ChainWord}
use Rattle.ref_meet.specs.Mets.{word_at}
use Rattle.ref_meet.specs.Ready.{AreInOrder}
use Rattle.ref_meet.specs.inner.Words.{StandsAt}
use Rattle.ref_meet.proofs.NumberLemmas.{found, missing, not_there}

-- the element that an option has
some_of : {X Y : Type 0} (f : X → Y) (o : Option X) (y : Y) → option_map f o ≡ Some y → (x : X) × (o ≡ Some x) × (f x ≡ y)
some_of f None y e = cc
some_of f (Some x) y e = (x, refl, cc)

pub stands_within : (words : List ChainWord) (address at : ℕ) → StandsAt words address at → at < length words
stands_within words address at stands =
    let there = some_of (λ (chained : ChainWord). chained.address) (slice_get words at) address stands in
    slice_get_within words at there.0 there.1

pub word_is : (words : List ChainWord) (address at : ℕ) (d : ChainWord) → AreInOrder words → StandsAt words address at → Some (get_or words at d).word ≡ word_at words address
unfolding word_at
word_is words address at d order stands =
    let within : at < length words = stands_within words address at stands in
    let here : (get_or words at d).address ≡ address = same (slice_get-get_or words at d within) in
    sym (ap (option_map (λ (c : ChainWord). c.word)) (found (λ (c : ChainWord). c.address) words address at d order within here))
  where
    same : slice_get words at ≡ Some (get_or words at d) → (get_or words at d).address ≡ address
    same e = one (get_or words at d).address (sym (ap (option_map (λ (c : ChainWord). c.address)) e) ∙ stands)
      where
        one : (n : ℕ) → Some n ≡ Some address → n ≡ address
        one n e = cc

pub word_found : (words : List ChainWord) (address at : ℕ) → at < length words → HoldsAt (λ (c : ChainWord). nat_cmp c.address address ≡ Equal) words at → StandsAt words address at
word_found words address at within holds = by (slice_get_cases words at).1
  where
    by : ((x : ChainWord) × (at < length words) × (slice_get words at ≡ Some x) × (get_or words at x ≡ x)) ⊎ ((length words ≤ at) × (slice_get words at ≡ None)) → StandsAt words address at
    by (inl (x, low, some, is)) =
        ap (option_map (λ (c : ChainWord). c.address)) (slice_get-get_or words at x within)
        ∙ ap (λ (n : ℕ). Some n) (same_number (get_or words at x).address address (holds x))
    by (inr (past, none)) = absurd (omega (arith, past, within))

pub word_missing : (words : List ChainWord) (address at : ℕ) → AreInOrder words → (IsNonDecreasingBy (λ (c : ChainWord). ordering_index (nat_cmp c.address address)) words → IsPartitionPoint (λ (c : ChainWord). nat_cmp c.address address ≡ Less) (λ (c : ChainWord). nat_cmp c.address address ≡ Greater) words at) → word_at words address ≡ None
unfolding word_at
word_missing words address at order parted = ap (option_map (λ (c : ChainWord). c.word)) (missing (λ (c : ChainWord). c.address) words address at order parted)

-- ---- beyond all words

pub none_beyond : (words : List ChainWord) (last address : ℕ) → All (λ (c : ChainWord). c.address ≤ last) words → last < address → word_at words address ≡ None
unfolding word_at
none_beyond words last address all beyond = ap (option_map (λ (c : ChainWord). c.word)) (not_there (λ (c : ChainWord). c.address) words address (λ j d within e.
    let low : (get_or words j d).address ≤ last = all j d within in
    let same : (get_or words j d).address ≡ address = same_number (get_or words j d).address address e in
    absurd (omega (arith, low, same, beyond))))

-- the last of words in order has the greatest address
pub all_before : (words : List ChainWord) (at : ℕ) (d : ChainWord) → AreInOrder words → at + 1 ≡ length words → All (λ (c : ChainWord). c.address ≤ (get_or words at d).address) words
all_before words at d order last = λ k e within. elim (cases_eq k at) [
  | inl same ↦ let is : get_or words k e ≡ get_or words at d = ap (λ (n : ℕ). get_or words n e) same ∙ get_or_default words at e d (omega (arith, last)) in omega (arith, ap (λ (c : ChainWord). c.address) is)
  | inr apart ↦ let less = below (get_or words k d).address (get_or words at d).address (rising_at (on (λ (c : ChainWord). c.address) nat_cmp) words k at d order (omega (arith, last, within, apart)) (omega (arith, last))) in
      let is : get_or words k e ≡ get_or words k d = get_or_default words k e d within in
      omega (arith, less, ap (λ (c : ChainWord). c.address) is)
]
  where
    below : (a b : ℕ) → nat_cmp a b ≡ Less → a < b
    below a b e = by (nat_cmp a b) e (ranked a b (nat_cmp a b) refl)
      where
        by : (r : Ordering) → r ≡ Less → MatchOrdering r (a < b) (a ≡ b) (b < a) → a < b
        by Less e m = m
        by Equal e m = cc
        by Greater e m = cc
