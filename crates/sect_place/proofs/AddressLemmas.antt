-- The address that a layout gives for an atom is that of its list of places.
use Rattle.std.proofs.Common.{◌≡◌, ℕ, Bool, true, false, List, get_or, Option, Some, None, refl, sym, ap, ◌∙◌, subst, inl, inr, arith}
use Rattle.std.specs.Prelude.{Contains}
use Rattle.std.specs.List.{find}
use Rattle.std.specs.Option.{option_map}
use Rattle.std.specs.Ordering.{is_eq}
use Rattle.std.specs.declared.cmp.Ordering.{Ordering}
use Rattle.std.specs.declared.cmp.Ordering.TheVariants.{Less, Equal, Greater}
use Rattle.std.proofs.lemmas.Bool.{cases_eq, cases_lt}
use Rattle.std.proofs.lemmas.Cmp.{tied_itself}
use Rattle.std.proofs.lemmas.List.{get_or_default}
use Rattle.list_lemmas.proofs.Members.{In, in_from_Contains, Contains_from_in, find_none, find_some}
use Rattle.mo_types.specs.Keys.{compare_keys}
use Rattle.mo_types.specs.declared.key.AtomKey.{AtomKey}
use Rattle.mo_types.proofs.KeyOrder.{compare_keys_total}
use Rattle.sect_place.specs.declared.layout.Placed.{Placed}
use Rattle.atom_index.proofs.Keys.{same_key}
use Rattle.sect_place.specs.Addresses.{AreOnce, IsAddressOf, address_in}

-- an entry of the atom
abbrev is_of : AtomKey → Placed → Bool
is_of key p = is_eq (compare_keys p.atom key)

itself : (key : AtomKey) (address : ℕ) → is_of key (record { atom = key; address = address }) ≡ true
itself key address = ap is_eq (tied_itself compare_keys_total key)

tied : (o : Ordering) → is_eq o ≡ true → o ≡ Equal
tied Less e = cc
tied Equal e = refl
tied Greater e = cc

same_atom : (key : AtomKey) (p : Placed) → is_of key p ≡ true → p.atom ≡ key
same_atom key p e = same_key p.atom key (tied (compare_keys p.atom key) e)

absent : (placed : List Placed) (key : AtomKey) → ((address : ℕ) → ¬ Contains placed (record { atom = key; address = address })) → None ≡ address_in placed key
unfolding address_in
absent placed key none = by (find (is_of key) placed) refl
  where
    by : (found : Option Placed) → find (is_of key) placed ≡ found → None ≡ option_map (λ p. p.address) (find (is_of key) placed)
    by None e = sym (ap (option_map (λ (p : Placed). p.address)) e)
    by (Some p) e =
        let there = find_some (is_of key) placed p e in
        let is : p.atom ≡ key = same_atom key p there.1 in
        absurd (none p.address (Contains_from_in placed (record { atom = key; address = p.address }) (subst (λ (k : AtomKey). In (record { atom = k; address = p.address }) placed) is there.0)))

-- two entries of one atom are one
one_entry : (placed : List Placed) (p q : Placed) → AreOnce placed → Contains placed p → Contains placed q → p.atom ≡ q.atom → p ≡ q
one_entry placed p q once (i, low, is_p) (j, high, is_q) same = elim (cases_lt i j) [
  | inl less ↦ absurd (once i j p less high (ap (λ (x : Placed). x.atom) is_p ∙ same ∙ sym (ap (λ (x : Placed). x.atom) (get_or_default placed j p q high ∙ is_q))))
  | inr more ↦ elim (cases_eq i j) [
    | inl e ↦ sym is_p ∙ subst (λ (n : ℕ). get_or placed n p ≡ q) (sym e) (get_or_default placed j p q high ∙ is_q)
    | inr differ ↦ absurd (once j i p (omega (arith, more, differ)) low (ap (λ (x : Placed). x.atom) (get_or_default placed j p q high ∙ is_q) ∙ sym same ∙ sym (ap (λ (x : Placed). x.atom) is_p)))
  ]
]

there : (placed : List Placed) (key : AtomKey) (address : ℕ) → AreOnce placed → Contains placed (record { atom = key; address = address }) → Some address ≡ address_in placed key
unfolding address_in
there placed key address once here = by (find (is_of key) placed) refl
  where
    entry : Placed
    entry = record { atom = key; address = address }

    clash : true ≡ false → Some address ≡ option_map (λ (p : Placed). p.address) (find (is_of key) placed)
    clash e = cc

    by : (found : Option Placed) → find (is_of key) placed ≡ found → Some address ≡ option_map (λ p. p.address) (find (is_of key) placed)
    by None e = clash (sym (itself key address) ∙ find_none (is_of key) placed entry e (in_from_Contains placed entry here))
    by (Some p) e =
        let found = find_some (is_of key) placed p e in
        let same : p ≡ entry = one_entry placed p entry once (Contains_from_in placed p found.0) here (same_atom key p found.1) in
        sym (ap (option_map (λ (q : Placed). q.address)) e ∙ ap (λ (q : Placed). Some q.address) same)

pub address_is : (placed : List Placed) (key : AtomKey) (found : Option ℕ) → AreOnce placed → IsAddressOf placed key found → found ≡ address_in placed key
address_is placed key None once none = absent placed key none
address_is placed key (Some address) once here = there placed key address once here
