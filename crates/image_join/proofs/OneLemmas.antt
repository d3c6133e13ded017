-- What is filled is one image, or has one fault.
use Rattle.std.proofs.Common.{◌≡◌, ℕ, ◌+◌, ◌-◌, ◌<◌, ◌≤◌, ◌⊎◌, inl, inr, List, length, drop, get_or, slice_index, false, true, Err, sym, ap, ◌∙◌, subst, arith}
use Rattle.std.specs.Prelude.{◌≢◌, All, Contains}
use Rattle.std.specs.List.{AllPairs}
use Rattle.std.specs.Ordering.{is_gt, nat_cmp, ordering_reverse, ordering_then}
use Rattle.std.specs.declared.cmp.Ordering.{Ordering}
use Rattle.std.specs.declared.cmp.Ordering.TheVariants.{Less, Equal, Greater}
use Rattle.std.proofs.lemmas.Bool.{cases_lt}
use Rattle.std.proofs.lemmas.List.{ext_get_or, get_or-drop, get_or-take, get_or_default}
use Rattle.std.proofs.lemmas.List.Elements.{All-contains}
use Rattle.std.proofs.lemmas.Map.Lookups.{CmpEqualImpliesEq, exact_pairs, exact_unsigned}
use Rattle.mo_types.specs.Keys.{compare_keys}
use Rattle.mo_types.specs.declared.key.AtomKey.{AtomKey}
use Rattle.mo_types.specs.declared.loaded.LoadedFile.{LoadedFile}
use Rattle.mo_types.proofs.KeyOrder.{compare_keys_total}
use Rattle.patch.specs.declared.met.Met.{Met}
use Rattle.patch.specs.declared.met.RangeFault.{RangeFault}
use Rattle.patch.specs.declared.range.PlacedWork.{PlacedWork}
use Rattle.patch.specs.Field.{field_of}
use Rattle.patch.specs.Patched.{AreApart, Fits, IsFirstAtFault, IsFirstFault}
use Rattle.patch.specs.Range.{AllFit, AreStanding, HasBytes, IsBeside, IsLeastFault, IsPlaced, IsSameBeside, IsUpTo, bytes_of, part_of}
use Rattle.patch.proofs.OneLemmas.{by_element, one_patch}
use Rattle.patch.proofs.WriteLemmas.{four_at_least}

-- ---- one image

in_or_beside : (files : List LoadedFile) (from k : ℕ) (item : PlacedWork) → ((item.at ≤ from + k) × (from + k < item.at + length (bytes_of files item))) ⊎ IsBeside files from k item
in_or_beside files from k item = elim (cases_lt (from + k) item.at) [
  | inl before ↦ inr (inl before)
  | inr begins ↦ elim (cases_lt (from + k) (item.at + length (bytes_of files item))) [
    | inl within ↦ inl (begins, within)
    | inr past ↦ inr (inr past)
  ]
]

byte_of_part : (files : List LoadedFile) (from k : ℕ) (item : PlacedWork) (image : List ℕ) → from ≤ item.at → item.at ≤ from + k → from + k < item.at + length (bytes_of files item) → slice_index (part_of files from item image) (from + k - item.at) ≡ slice_index image k
unfolding part_of
byte_of_part files from k item image begins low high =
    let there : item.at - from + (from + k - item.at) ≡ k = omega arith in
    get_or-take (length (bytes_of files item)) (drop (item.at - from) image) (from + k - item.at) 0 (omega arith)
    ∙ get_or-drop (item.at - from) image (from + k - item.at) 0
    ∙ ap (λ (j : ℕ). slice_index image j) there

byte_of_atom : (files : List LoadedFile) (mets : PlacedWork → List Met) (from k : ℕ) (item : PlacedWork) (a b : List ℕ) → from ≤ item.at → HasBytes files from a item → HasBytes files from b item → IsPlaced files mets from a item → IsPlaced files mets from b item → item.at ≤ from + k → from + k < item.at + length (bytes_of files item) → slice_index a k ≡ slice_index b k
byte_of_atom files mets from k item a b begins low_a low_b first second low high =
    let same : part_of files from item a ≡ part_of files from item b =
    one_patch item.address (mets item) (bytes_of files item) (part_of files from item a) (part_of files from item b) low_a low_b first second in
    sym (byte_of_part files from k item a begins low high)
    ∙ ap (λ (part : List ℕ). slice_index part (from + k - item.at)) same
    ∙ byte_of_part files from k item b begins low high

pub one_image : (files : List LoadedFile) (mets : PlacedWork → List Met) (from : ℕ) (work : List PlacedWork) (old a b : List ℕ) → AreStanding files from (length old) work → All (HasBytes files from a) work → All (HasBytes files from b) work → IsSameBeside files from work old a → All (IsPlaced files mets from a) work → IsSameBeside files from work old b → All (IsPlaced files mets from b) work → a ≡ b
one_image files mets from work old a b are low_a low_b beside_a placed_a beside_b placed_b = ext_get_or 0 a b (beside_a.size ∙ sym beside_b.size) byte
  where
    byte : (k : ℕ) → k < length a → slice_index a k ≡ slice_index b k
    byte k within =
        by_element (λ item. (item.at ≤ from + k) × (from + k < item.at + length (bytes_of files item))) (IsBeside files from k) (slice_index a k ≡ slice_index b k) (in_or_beside files from k) work
        (λ j d low inside. byte_of_atom files mets from k (get_or work j d) a b (are.items j d low).begins (low_a j d low) (low_b j d low) (placed_a j d low) (placed_b j d low) inside.0 inside.1)
        (λ out. beside_a.others k out ∙ sym (beside_b.others k out))

-- ---- keys of which neither is above the other

abbrev in_turn : ℕ × ℕ → ℕ × ℕ → Ordering
in_turn x y = ordering_then (nat_cmp x.0 y.0) (nat_cmp x.1 y.1)

exact_in_turn : CmpEqualImpliesEq in_turn
exact_in_turn = exact_pairs nat_cmp nat_cmp exact_unsigned exact_unsigned

abbrev key_of : (ℕ × ℕ) × (ℕ × ℕ) → AtomKey
key_of n = record { file = record { position = n.0.0; member = n.0.1 }; section = n.1.0; offset = n.1.1 }

same_key : (a b : AtomKey) → compare_keys a b ≡ Equal → a ≡ b
same_key a b e =
    ap key_of (exact_pairs in_turn in_turn exact_in_turn exact_in_turn ((a.file.position, a.file.member), (a.section, a.offset)) ((b.file.position, b.file.member), (b.section, b.offset)) e)

one_key : (a b : AtomKey) → IsUpTo a b → IsUpTo b a → a ≡ b
one_key a b low high = same_key a b (tied (compare_keys a b) (compare_keys b a) (compare_keys_total.antisymm a b) low high)
  where
    tied : (o p : Ordering) → o ≡ ordering_reverse p → is_gt o ≡ false → is_gt p ≡ false → o ≡ Equal
    tied o Less e low high = let above : is_gt o ≡ true = ap is_gt e in absurd cc
    tied o Equal e low high = e
    tied o Greater e low high = absurd cc

-- ---- one fault

two_of : {X : Type 0} (R : X → X → Type 0) (xs : List X) (x y : X) → AllPairs R xs → Contains xs x → Contains xs y → (x ≡ y) ⊎ (R x y ⊎ R y x)
two_of R xs x y all (i, low_i, is_x) (j, low_j, is_y) =
    let there : get_or xs j x ≡ y = get_or_default xs j x y low_j ∙ is_y in
    elim (cases_lt i j) [
      | inl before ↦ inr (inl (subst (λ z. R z y) is_x (subst (λ z. R (get_or xs i x) z) there (all i j x before low_j))))
      | inr from ↦ elim (cases_lt j i) [
        | inl before ↦ inr (inr (subst (λ z. R z x) there (subst (λ z. R (get_or xs j x) z) is_x (all j i x before low_i))))
        | inr to ↦ let same : i ≡ j = omega arith in inl (sym is_x ∙ ap (λ (k : ℕ). get_or xs k x) same ∙ there)
      ]
    ]

not_at_fault : (address : ℕ) (bytes : List ℕ) (met : Met) (fault : RangeFault) → field_of address bytes met ≡ Err fault → Fits address bytes met → ⊥
not_at_fault address bytes met fault fails (value, fits) = cc

not_all_fit : (address : ℕ) (bytes : List ℕ) (mets : List Met) (fault : RangeFault) → IsFirstFault address bytes mets fault → All (Fits address bytes) mets → ⊥
not_all_fit address bytes mets fault (met, first) all = not_at_fault address bytes met fault first.fails (All-contains (Fits address bytes) mets met all first.among)

first_place : (address : ℕ) (bytes : List ℕ) (mets : List Met) (fault other : RangeFault) (a b : Met) → IsFirstAtFault address bytes mets fault a → IsFirstAtFault address bytes mets other b → a.place ≤ b.place
first_place address bytes mets fault other a b first second =
    elim (All-contains (λ met. Fits address bytes met ⊎ (a.place ≤ met.place)) mets b first.least second.among) [
      | inl fits ↦ absurd (not_at_fault address bytes b other second.fails fits)
      | inr low ↦ low
    ]

never_apart : (a b : Met) → a.place ≡ b.place → AreApart a b → ⊥
never_apart a b same (inl before) = let some = four_at_least a.kind in omega arith
never_apart a b same (inr after) = let some = four_at_least b.kind in omega arith

one_first : (address : ℕ) (bytes : List ℕ) (mets : List Met) (fault other : RangeFault) → AllPairs AreApart mets → IsFirstFault address bytes mets fault → IsFirstFault address bytes mets other → fault ≡ other
one_first address bytes mets fault other apart (a, first) (b, second) =
    let low : a.place ≤ b.place = first_place address bytes mets fault other a b first second in
    let high : b.place ≤ a.place = first_place address bytes mets other fault b a second first in
    elim (two_of AreApart mets a b apart first.among second.among) [
      | inl same ↦ let fails : field_of address bytes b ≡ Err fault = subst (λ (met : Met). field_of address bytes met ≡ Err fault) same first.fails in let too : field_of address bytes b ≡ Err other = second.fails in cc
      | inr (inl beside) ↦ absurd (never_apart a b (omega arith) beside)
      | inr (inr beside) ↦ absurd (never_apart b a (omega arith) beside)
    ]

-- a key is up to those of the atoms at fault
least_key : (files : List LoadedFile) (mets : PlacedWork → List Met) (work : List PlacedWork) (fault other : AtomKey × RangeFault) → IsLeastFault files mets work fault.0 fault.1 → IsLeastFault files mets work other.0 other.1 → IsUpTo fault.0 other.0
least_key files mets work fault other (a, first) (b, second) =
    elim (All-contains (λ item. AllFit files mets item ⊎ IsUpTo fault.0 item.atom.key) work b first.least second.among) [
      | inl fit ↦ absurd (not_all_fit b.address (bytes_of files b) (mets b) other.1 second.fails fit)
      | inr low ↦ subst (IsUpTo fault.0) (sym second.of_item) low
    ]

pub one_fault : (files : List LoadedFile) (mets : PlacedWork → List Met) (work : List PlacedWork) (fault other : AtomKey × RangeFault) → All (λ item. AllPairs AreApart (mets item)) work → AllPairs (λ a b. a.atom.key ≢ b.atom.key) work → IsLeastFault files mets work fault.0 fault.1 → IsLeastFault files mets work other.0 other.1 → fault ≡ other
one_fault files mets work fault other apart differ (a, first) (b, second) =
    elim (two_of (λ a b. a.atom.key ≢ b.atom.key) work a b differ first.among second.among) [
      | inl same ↦
          let fails : IsFirstFault b.address (bytes_of files b) (mets b) fault.1 = subst (λ (item : PlacedWork). IsFirstFault item.address (bytes_of files item) (mets item) fault.1) same first.fails in
          let it : AllPairs AreApart (mets b) = All-contains (λ (item : PlacedWork). AllPairs AreApart (mets item)) work b apart second.among in
          let faults : fault.1 ≡ other.1 = one_first b.address (bytes_of files b) (mets b) fault.1 other.1 it fails second.fails in
          both keys faults
      | inr (inl not) ↦ absurd (not (sym first.of_item ∙ keys ∙ second.of_item))
      | inr (inr not) ↦ absurd (not (sym second.of_item ∙ sym keys ∙ first.of_item))
    ]
  where
    keys : fault.0 ≡ other.0
    keys = one_key fault.0 other.0 (least_key files mets work fault other (a, first) (b, second)) (least_key files mets work other fault (b, second) (a, first))

    both : fault.0 ≡ other.0 → fault.1 ≡ other.1 → fault ≡ other
    both e f = ap (λ (key : AtomKey). (key, fault.1)) e ∙ ap (λ (range : RangeFault). (other.0, range)) f

-- where a value doesn't fit, nothing is filled
pub not_filled : (files : List LoadedFile) (mets : PlacedWork → List Met) (from : ℕ) (work : List PlacedWork) (key : AtomKey) (fault : RangeFault) (image : List ℕ) → IsLeastFault files mets work key fault → ¬ All (IsPlaced files mets from image) work
not_filled files mets from work key fault image (item, it) all =
    let placed : IsPlaced files mets from image item = All-contains (IsPlaced files mets from image) work item all it.among in
    not_all_fit item.address (bytes_of files item) (mets item) fault it.fails (λ k d low. (_, placed.fields k d low))
