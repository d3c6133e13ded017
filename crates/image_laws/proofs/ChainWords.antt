-- The words of chains, by their addresses.
use Rattle.std.proofs.Common.{◌≡◌, ℕ, ◌+◌, ◌-◌, ◌*◌, ◌/◌, ◌<◌, ◌≤◌, ◌^◌, ◌==◌, nat_lt, Bool, true, false, ℤ, pos, negsuc, List, map, length, Option, Some, None, Contains, refl, sym, ap, ◌∙◌, arith, tests, lit<, subst, if◌then◌else◌}
use Rattle.std.specs.Prelude.{unwrap_or}
use Rattle.std.specs.List.{filter, find, position_or_len}
use Rattle.std.specs.Option.{option_map, option_map_or}
use Rattle.std.specs.Ordering.{eq_by_cmp}
use Rattle.std.proofs.lemmas.Bool.{eqb-true, false≢true, ltb-true}
use Rattle.list_lemmas.proofs.Members.{Contains_from_in, In, find_none, find_some, from_filter, from_map, in_from_Contains, in_map}
use Rattle.sect_place.specs.declared.layout.Layout.{Layout}
use Rattle.fixup_chain.specs.Chained.{AreChains}
use Rattle.fixup_chain.specs.Encoded.{AreApart, IMPORTS}
use Rattle.fixup_chain.specs.Faults.{target_of}
use Rattle.fixup_chain.specs.ImportOrder.{Import, compare_imports}
use Rattle.fixup_chain.specs.Imports.{import_of, is_bound}
use Rattle.fixup_chain.specs.Places.{addresses_of, is_after, least, next_after, steps_to_next}
use Rattle.fixup_chain.specs.Words.{chain_word, in_rebase, number_of, word_addend, word_by, words_of}
use Rattle.fixup_chain.specs.declared.chains.ChainWord.{ChainWord}
use Rattle.fixup_chain.specs.declared.chains.Chains.{Chains}
use Rattle.fixup_chain.specs.declared.chains.Fixup.{Fixup}
use Rattle.fixup_chain.proofs.PlaceLemmas.{after_true, least_some}
use Rattle.ref_meet.specs.Mets.{word_at}
use Rattle.image_laws.proofs.Alone.{alone}

-- ---- each has 64 bits

steps_small : (addresses : List ℕ) (a : ℕ) → steps_to_next addresses a < 2 ^ 12
unfolding steps_to_next next_after
steps_small addresses a = by (least (filter (is_after a) addresses)) refl
  where
    by : (o : Option ℕ) → least (filter (is_after a) addresses) ≡ o → option_map_or (λ next. (next - a) / 4) o 0 < 2 ^ 12
    by None e = lit< tt
    by (Some b) e =
        let one = least_some (filter (is_after a) addresses) b e in
        let after = after_true a b (from_filter (is_after a) addresses b one.member).1 in
        omega (arith, after.0, after.1)

number_small : (imports : List Import) (import : Import) → length imports < IMPORTS → number_of imports import < 2 ^ 24
unfolding number_of
number_small imports import few = by (nat_lt n (length imports)) refl
  where
    n : ℕ
    n = position_or_len (eq_by_cmp compare_imports import) imports

    by : (b : Bool) → nat_lt n (length imports) ≡ b → unwrap_or (if b then Some n else None) 0 < 2 ^ 24
    by true e = let low : n < length imports = ltb-true n (length imports) e in omega (arith, low, few)
    by false e = lit< tt

addend_small : (wide : Bool) (addend : ℤ) → word_addend wide addend < 2 ^ 8
addend_small true addend = lit< tt
addend_small false addend = omega arith

rebase_small : (target : ℤ) → unwrap_or (in_rebase target) 0 < 2 ^ 36
rebase_small (pos n) = by (nat_lt n (2 ^ 36)) refl
  where
    by : (b : Bool) → nat_lt n (2 ^ 36) ≡ b → unwrap_or (if b then Some n else None) 0 < 2 ^ 36
    by true e = ltb-true n (2 ^ 36) e
    by false e = lit< tt
rebase_small (negsuc n) = lit< tt

word_small : (wide : Bool) (imports : List Import) (target : ℤ) (next : ℕ) (fixup : Fixup) → length imports < IMPORTS → next < 2 ^ 12 → word_by wide imports target next fixup < 2 ^ 64
unfolding word_by
word_small wide imports target next fixup few low = by (is_bound fixup.goal)
  where
    by : (b : Bool) → (if b then number_of imports (import_of wide fixup) + 2 ^ 24 * word_addend wide fixup.addend + 2 ^ 32 * 0 + 2 ^ 51 * next + 2 ^ 63 else unwrap_or (in_rebase target) 0 + 2 ^ 36 * 0 + 2 ^ 44 * 0 + 2 ^ 51 * next) < 2 ^ 64
    by true = omega (arith, number_small imports (import_of wide fixup) few, addend_small wide fixup.addend, low)
    by false = omega (arith, rebase_small target, low)

-- ---- the word of a pointer

-- the word of a chain that a pointer has
abbrev pub word_for : (layout : Layout) (fixups : List Fixup) (chains : Chains) → AreChains layout fixups chains → Fixup → ChainWord
word_for layout fixups chains are fixup = chain_word (target_of layout) are.wide are.imports (addresses_of fixups) fixup

-- two pointers at one address are one
pub one_pointer : (fixups : List Fixup) (f g : Fixup) → AreApart fixups → Contains fixups f → Contains fixups g → f.address ≡ g.address → f ≡ g
one_pointer fixups f g apart h k same =
    alone (λ (a : Fixup) (b : Fixup). a.address + 8 ≤ b.address) fixups f g apart h k (λ before. omega arith) (λ behind. omega arith)

address_is : (target : Fixup → ℤ) (wide : Bool) (imports : List Import) (addresses : List ℕ) (fixup : Fixup) → (chain_word target wide imports addresses fixup).address ≡ fixup.address
unfolding chain_word
address_is target wide imports addresses fixup = refl

small_word : (target : Fixup → ℤ) (wide : Bool) (imports : List Import) (addresses : List ℕ) (fixup : Fixup) → length imports < IMPORTS → (chain_word target wide imports addresses fixup).word < 2 ^ 64
unfolding chain_word
small_word target wide imports addresses fixup few = word_small wide imports (target fixup) (steps_to_next addresses fixup.address) fixup few (steps_small addresses fixup.address)

-- the word that is found at a pointer's address
pub record HasWord (chains : Chains) (fixup : Fixup) : Type 0 where
  pub word : ℕ
  pub found : word_at chains.words fixup.address ≡ Some word
  pub small : word < 2 ^ 64

found_word : (layout : Layout) (fixups : List Fixup) (chains : Chains) (fixup : Fixup) → (are : AreChains layout fixups chains) → AreApart fixups → Contains fixups fixup → word_at chains.words fixup.address ≡ Some (word_for layout fixups chains are fixup).word
unfolding word_at words_of
found_word layout fixups chains fixup are apart there = ap (option_map (λ (w : ChainWord). w.word)) (ap (find test) are.words ∙ by (find test words) refl)
  where
    g : Fixup → ChainWord
    g f = word_for layout fixups chains are f

    words : List ChainWord
    words = map g fixups

    test : ChainWord → Bool
    test w = w.address == fixup.address

    stands : (f : Fixup) → (g f).address ≡ f.address
    stands f = address_is (target_of layout) are.wide are.imports (addresses_of fixups) f

    by : (found : Option ChainWord) → find test words ≡ found → found ≡ Some (g fixup)
    by None e =
        let fails : test (g fixup) ≡ false = find_none test words (g fixup) e (in_map g fixups fixup (in_from_Contains fixups fixup there)) in
        absurd (false≢true (sym fails ∙ ap (λ (n : ℕ). n == fixup.address) (stands fixup) ∙ itself fixup.address))
      where
        itself : (n : ℕ) → (n == n) ≡ true
        itself n = grind (arith, tests)
    by (Some w) e =
        let passes = find_some test words w e in
        let from : (f : Fixup) × In f fixups × (g f ≡ w) = from_map g fixups w passes.0 in
        let at : w.address ≡ fixup.address = eqb-true w.address fixup.address passes.1 in
        let same : from.0 ≡ fixup = one_pointer fixups from.0 fixup apart (Contains_from_in fixups from.0 from.1) there (sym (stands from.0) ∙ ap (λ (x : ChainWord). x.address) from.2 ∙ at) in
        ap (λ (x : ChainWord). Some x) (sym from.2 ∙ ap g same)

pub has_word : (layout : Layout) (fixups : List Fixup) (chains : Chains) (fixup : Fixup) → AreChains layout fixups chains → AreApart fixups → Contains fixups fixup → HasWord chains fixup
has_word layout fixups chains fixup are apart there = record {
  word = (word_for layout fixups chains are fixup).word;
  found = found_word layout fixups chains fixup are apart there;
  small = small_word (target_of layout) are.wide are.imports (addresses_of fixups) fixup are.few;
}

-- each word is that of a pointer
pub record IsWordOf (chains : Chains) (fixups : List Fixup) (w : ChainWord) : Type 0 where
  pub fixup : Fixup
  pub among : Contains fixups fixup
  pub at : fixup.address ≡ w.address
  pub found : word_at chains.words fixup.address ≡ Some w.word
  pub small : w.word < 2 ^ 64

pub word_behind : (layout : Layout) (fixups : List Fixup) (chains : Chains) (w : ChainWord) → AreChains layout fixups chains → AreApart fixups → Contains chains.words w → IsWordOf chains fixups w
unfolding words_of
word_behind layout fixups chains w are apart h =
    let g : Fixup → ChainWord = word_for layout fixups chains are in
    let from : (f : Fixup) × In f fixups × (g f ≡ w) = from_map g fixups w (in_from_Contains (map g fixups) w (subst (λ (ws : List ChainWord). Contains ws w) are.words h)) in
    let there : Contains fixups from.0 = Contains_from_in fixups from.0 from.1 in
    record {
      fixup = from.0;
      among = there;
      at = sym (address_is (target_of layout) are.wide are.imports (addresses_of fixups) from.0) ∙ ap (λ (x : ChainWord). x.address) from.2;
      found = found_word layout fixups chains from.0 are apart there ∙ ap (λ (x : ChainWord). Some x.word) from.2;
      small = subst (λ (x : ChainWord). x.word < 2 ^ 64) from.2 (small_word (target_of layout) are.wide are.imports (addresses_of fixups) from.0 are.few);
    }
