-- What is answered for some pointers is one thing.
use Rattle.std.proofs.Common.{◌≡◌, ◌≢◌, ℕ, ◌+◌, ◌<◌, ◌≤◌, Bool, false, List, length, get_or, Option, Some, None, is_some, refl, sym, ap, subst, ◌∙◌, inl, inr, arith}
use Rattle.std.specs.Prelude.{Contains}
use Rattle.std.specs.Ordering.{nat_cmp, ordering_reverse, ordering_then}
use Rattle.std.specs.Option.{option_cmp}
use Rattle.std.specs.declared.cmp.Ordering.{Ordering}
use Rattle.std.specs.declared.cmp.Ordering.TheVariants.{Less, Equal, Greater}
use Rattle.std.proofs.lemmas.Bool.{cases_eq, cases_lt}
use Rattle.std.proofs.lemmas.List.{get_or_default}
use Rattle.list_lemmas.proofs.Members.{in_from_Contains, Contains_from_in}
use Rattle.list_lemmas.proofs.Rising.{rising_same}
use Rattle.list_lemmas.proofs.Ties.{same_number, tied_second}
use Rattle.mo_types.specs.Keys.{compare_keys}
use Rattle.sect_place.specs.declared.layout.Layout.{Layout}
use Rattle.fixup_chain.specs.Chained.{AreChains, AreMany, IsCause}
use Rattle.fixup_chain.specs.Encoded.{AreApart, IMPORTS, blob_of}
use Rattle.fixup_chain.specs.Faults.{IsFirstFault, base_of, compare_turns, fault_of, target_of}
use Rattle.fixup_chain.specs.ImportOrder.{Import, compare_imports_total}
use Rattle.fixup_chain.specs.Imports.{AreFormed, AreImports, imports_by, is_wide, pool_of}
use Rattle.fixup_chain.specs.Places.{addresses_of}
use Rattle.fixup_chain.specs.Words.{words_of}
use Rattle.fixup_chain.specs.declared.chains.ChainFault.{ChainFault}
use Rattle.fixup_chain.specs.declared.chains.ChainFault.TheVariants as fault
use Rattle.fixup_chain.specs.declared.chains.ChainWord.{ChainWord}
use Rattle.fixup_chain.specs.declared.chains.Chains.{Chains}
use Rattle.fixup_chain.specs.declared.chains.Fixup.{Fixup}
use Rattle.fixup_chain.proofs.TurnLemmas.{turns_total}

-- ---- the imports

pub same_imports : (given a b : List Import) → AreImports given a → AreImports given b → a ≡ b
same_imports given a b p q =
    rising_same compare_imports_total a b p.rising q.rising
    (λ t h. in_from_Contains b t (q.all t (p.only t (Contains_from_in a t h))))
    (λ t h. in_from_Contains a t (p.all t (q.only t (Contains_from_in b t h))))

same_form : (fixups : List Fixup) (wide also : Bool) (a b : List Import) → AreFormed fixups wide a → AreFormed fixups also b → wide ≡ also
same_form fixups wide also a b p q =
    let narrow : p.narrow ≡ q.narrow = same_imports (imports_by false fixups) p.narrow q.narrow p.are_narrow q.are_narrow in
    p.form ∙ ap (λ (n : List Import). is_wide fixups (pool_of n)) narrow ∙ sym q.form

pub same_formed : (fixups : List Fixup) (wide also : Bool) (a b : List Import) → AreFormed fixups wide a → AreFormed fixups also b → a ≡ b
same_formed fixups wide also a b p q =
    let form : also ≡ wide = sym (same_form fixups wide also a b p q) in
    same_imports (imports_by wide fixups) a b p.are (subst (λ (w : Bool). AreImports (imports_by w fixups) b) form q.are)

-- ---- the chains

abbrev chains_by : List ChainWord → List ℕ → Chains
chains_by w b = record { words = w; blob = b }

same_parts : (w x : List ChainWord) (b c : List ℕ) → w ≡ x → b ≡ c → chains_by w b ≡ chains_by x c
same_parts w x b c e f = rw (e, f) refl

pub same_chains : (layout : Layout) (fixups : List Fixup) (a b : Chains) → AreChains layout fixups a → AreChains layout fixups b → a ≡ b
same_chains layout fixups a b p q =
    let form : p.wide ≡ q.wide = same_form fixups p.wide q.wide p.imports q.imports p.formed q.formed in
    let imports : p.imports ≡ q.imports = same_formed fixups p.wide q.wide p.imports q.imports p.formed q.formed in
    let words : a.words ≡ b.words =
    p.words ∙ ap (λ (w : Bool). words_of (target_of layout) w p.imports fixups) form ∙ ap (λ (i : List Import). words_of (target_of layout) q.wide i fixups) imports ∙ sym q.words in
    let blob : a.blob ≡ b.blob =
    p.blob
    ∙ ap (λ (w : Bool). blob_of (addresses_of fixups) (base_of layout.segments) layout.segments w p.imports) form
    ∙ ap (blob_of (addresses_of fixups) (base_of layout.segments) layout.segments q.wide) imports
    ∙ sym q.blob in
    same_parts a.words b.words a.blob b.blob words blob

-- ---- the first fault

neither : (o : Ordering) → o ≢ Greater → ordering_reverse o ≢ Greater → o ≡ Equal
neither Less p q = absurd (q refl)
neither Equal p q = refl
neither Greater p q = absurd (p refl)

tied_turns : (a b : Fixup) → compare_turns a b ≢ Greater → compare_turns b a ≢ Greater → compare_turns a b ≡ Equal
tied_turns a b p q = neither (compare_turns a b) p (λ e. q (turns_total.antisymm b a ∙ e))

same_address : (a b : Fixup) → compare_turns a b ≡ Equal → a.address ≡ b.address
unfolding compare_turns
same_address a b e =
    let rest = tied_second (option_cmp compare_keys a.atom b.atom) (ordering_then (nat_cmp a.place b.place) (nat_cmp a.address b.address)) e in
    same_number a.address b.address (tied_second (nat_cmp a.place b.place) (nat_cmp a.address b.address) rest)

same_fixup : (fixups : List Fixup) (a b : Fixup) → AreApart fixups → Contains fixups a → Contains fixups b → a.address ≡ b.address → a ≡ b
same_fixup fixups a b apart (i, low, is_a) (j, high, is_b) same = elim (cases_lt i j) [
  | inl less ↦ absurd (far i j less high (at_a i low is_a) (at_b j high is_b) same)
  | inr more ↦ elim (cases_eq i j) [
    | inl e ↦ sym is_a ∙ get_or_default fixups i a b low ∙ ap (λ (n : ℕ). get_or fixups n b) e ∙ is_b
    | inr differ ↦ absurd (far j i (omega (arith, more, differ)) low (at_b j high is_b) (at_a i low is_a) (sym same))
  ]
]
  where
    at_a : (k : ℕ) → k < length fixups → get_or fixups k a ≡ a → (get_or fixups k a).address ≡ a.address
    at_a k within e = ap (λ (f : Fixup). f.address) e

    at_b : (k : ℕ) → k < length fixups → get_or fixups k b ≡ b → (get_or fixups k a).address ≡ b.address
    at_b k within e = ap (λ (f : Fixup). f.address) (get_or_default fixups k a b within ∙ e)

    far : (k l : ℕ) → k < l → l < length fixups → {x y : ℕ} → (get_or fixups k a).address ≡ x → (get_or fixups l a).address ≡ y → x ≡ y → ⊥
    far k l less within e f g = let room : (get_or fixups k a).address + 8 ≤ (get_or fixups l a).address = apart k l a less within in omega (arith, room, e, f, g)

same_fault : (layout : Layout) (fixups : List Fixup) (a b : ChainFault) → AreApart fixups → IsFirstFault layout fixups a → IsFirstFault layout fixups b → a ≡ b
same_fault layout fixups a b apart p q =
    let first : compare_turns p.fixup q.fixup ≢ Greater = p.first q.fixup q.there (ap is_some q.is) in
    let second : compare_turns q.fixup p.fixup ≢ Greater = q.first p.fixup p.there (ap is_some p.is) in
    let one : p.fixup ≡ q.fixup = same_fixup fixups p.fixup q.fixup apart p.there q.there (same_address p.fixup q.fixup (tied_turns p.fixup q.fixup first second)) in
    let whole : Some a ≡ Some b = sym p.is ∙ ap (fault_of layout) one ∙ q.is in
    cc

crowded : (fixups : List Fixup) (wide : Bool) (imports : List Import) → AreMany fixups → AreFormed fixups wide imports → length imports < IMPORTS → ⊥
crowded fixups wide imports many formed few =
    let same : many.imports ≡ imports = same_formed fixups many.wide wide many.imports imports many.formed formed in
    let size : length many.imports ≡ length imports = ap length same in
    omega (arith, many.many, size, few)

pub same_cause : (layout : Layout) (fixups : List Fixup) (a b : ChainFault) → AreApart fixups → IsCause layout fixups a → IsCause layout fixups b → a ≢ fault.OutOfMemory → b ≢ fault.OutOfMemory → a ≡ b
same_cause layout fixups fault.OutOfMemory b apart p q some also = absurd (some refl)
same_cause layout fixups a fault.OutOfMemory apart p q some also = absurd (also refl)
same_cause layout fixups (fault.Limit l) (fault.Limit m) apart p q some also = ap fault.Limit (p.0 ∙ sym q.0)
same_cause layout fixups (fault.Limit l) (fault.Range atom place kind value) apart p q some also = absurd (crowded fixups q.wide q.imports p.1 q.formed q.few)
same_cause layout fixups (fault.Range atom place kind value) (fault.Limit m) apart p q some also = absurd (crowded fixups p.wide p.imports q.1 p.formed p.few)
same_cause layout fixups (fault.Range a p k v) (fault.Range b q l w) apart first second some also = same_fault layout fixups (fault.Range a p k v) (fault.Range b q l w) apart first.first second.first

none_some : {X : Type 0} (o : Option X) (x : X) → o ≡ None → o ≡ Some x → ⊥
none_some o x e f = let g : None ≡ Some x = sym e ∙ f in cc

pub no_other_cause : (layout : Layout) (fixups : List Fixup) (chains : Chains) (why : ChainFault) → AreChains layout fixups chains → IsCause layout fixups why → why ≡ fault.OutOfMemory
no_other_cause layout fixups chains (fault.Range atom place kind value) p q = absurd (none_some (fault_of layout q.first.fixup) (fault.Range atom place kind value) (p.sound q.first.fixup q.first.there) q.first.is)
no_other_cause layout fixups chains (fault.Limit limit) p q = absurd (crowded fixups p.wide p.imports q.1 p.formed p.few)
no_other_cause layout fixups chains fault.OutOfMemory p q = refl
