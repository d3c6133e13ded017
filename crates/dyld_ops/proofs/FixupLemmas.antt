-- A map's entries as the list of fixups by address.
use Rattle.std.proofs.Common.{◌≡◌, ℕ, zero, suc, ◌+◌, ◌<◌, ◌≤◌, ◌==◌, ◌||◌, Bool, true, false, cond, ltb, List, [], ◌∷◌, ◌++◌, length, Option, Some, None, refl, sym, ◌∙◌, ap, inl, inr, ◌⊎◌, arith, tests}
use Rattle.std.specs.Prelude.{map, is_some}
use Rattle.std.specs.List.{list_any}
use Rattle.std.specs.Ordering.{nat_cmp, is_eq}
use Rattle.std.specs.BTreeMap.{insert_entry, is_at}
use Rattle.std.specs.Map.{lookup}
use Rattle.std.proofs.lemmas.Bool.{cases_lt, lt-ltb, le-ltb, eqb-false, eq-eqb, ne_eqb}
use Rattle.std.proofs.lemmas.Bool.Decides.{eqb_tells}
use Rattle.std.proofs.lemmas.List.{map-append}
use Rattle.dyld_ops.specs.Machine.{with_fixup}
use Rattle.dyld_ops.specs.declared.fixup.OpAct.{OpAct}
use Rattle.dyld_ops.specs.declared.fixup.OpFixup.{OpFixup}
use Rattle.dyld_ops.specs.inner.Entries.{fixup_of}

abbrev pub is_of : ℕ → OpFixup → Bool
is_of address fixup = fixup.address == address

same_test : (a b : ℕ) → is_eq (nat_cmp a b) ≡ (b == a)
same_test a b =
    elim (cases_lt a b) [
      | inl less ↦ rw (lt-ltb a b less, ne_eqb b a (λ e. absurd (omega arith))) refl
      | inr past ↦
          elim (eqb_tells a b) [
            | inl same ↦ rw (le-ltb a b past, same.0, eq-eqb b a (sym same.1)) refl
            | inr other ↦ rw (le-ltb a b past, other.0, ne_eqb b a (λ e. other.1 (sym e))) refl
          ]
    ]

holds_rest : (t u : Bool) (act : OpAct) (rest : Option OpAct) (more : Bool) → t ≡ u → is_some rest ≡ more → is_some (cond t (Some act) rest) ≡ (u || more)
holds_rest true true act rest more e r = refl
holds_rest false false act rest more e r = r
holds_rest true false act rest more e r = cc
holds_rest false true act rest more e r = cc

pub holds_same : (es : List (ℕ × OpAct)) (a : ℕ) → is_some (lookup (is_at (nat_cmp a)) es) ≡ list_any (is_of a) (map fixup_of es)
holds_same [] a = refl
holds_same (e ∷ es) a = holds_rest (is_eq (nat_cmp a e.0)) (e.0 == a) e.1 (lookup (is_at (nat_cmp a)) es) _ (same_test a e.0) (holds_same es a)

neither : (t u : Bool) → (t || u) ≡ false → (t ≡ false) × (u ≡ false)
neither true u e = cc
neither false u e = (refl, e)

pub adds_same : (es : List (ℕ × OpAct)) (a : ℕ) (act : OpAct) → list_any (is_of a) (map fixup_of es) ≡ false → map fixup_of (insert_entry nat_cmp es a act) ≡ with_fixup (record { address = a; act = act }) (map fixup_of es)
adds_same [] a act free = refl
adds_same (e ∷ es) a act free =
    let parts = neither (e.0 == a) (list_any (is_of a) (map fixup_of es)) free in
    elim (cases_lt a e.0) [
      | inl less ↦ rw (lt-ltb a e.0 less) refl
      | inr past ↦
          let other : (a == e.0) ≡ false = ne_eqb a e.0 (λ same. eqb-false e.0 a parts.0 (sym same)) in
          rw (le-ltb a e.0 past, other) (ap (λ (rest : List OpFixup). fixup_of e ∷ rest) (adds_same es a act parts.1))
    ]

-- the list so far, and one more
pub listed_more : (xs : List (ℕ × OpAct)) (out : List OpFixup) (x : ℕ × OpAct) → out ≡ map fixup_of xs → out ++ fixup_of x ∷ [] ≡ map fixup_of (xs ++ x ∷ [])
listed_more xs out x is = rw is (sym (map-append fixup_of xs (x ∷ [])))
