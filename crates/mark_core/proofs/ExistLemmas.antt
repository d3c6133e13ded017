-- There are kept atoms for all edges, supports and roots.
use Rattle.std.proofs.Common.{◌≡◌, ℕ, zero, suc, ◌+◌, ◌≤◌, ◌<◌, ◌⊎◌, Bool, true, false, List, [], ◌∷◌, ◌++◌, length, length-append, Contains, refl, sym, ap, subst, ◌∙◌, inl, inr, arith}
use Rattle.std.proofs.lemmas.Bool.{cases_Bool}
use Rattle.std.proofs.lemmas.List.Sorted.{IsPermutation-refl}
use Rattle.list_lemmas.proofs.Members.{In, Contains_from_in, in_either, in_from_Contains, in_left, in_right}
use Rattle.sort_lemmas.proofs.Sorting.{rising_exists}
use Rattle.mo_types.specs.declared.edge.Edge.{Edge}
use Rattle.mo_types.specs.declared.key.AtomKey.{AtomKey}
use Rattle.mo_types.specs.Keys.{compare_keys}
use Rattle.mo_types.proofs.KeyOrder.{compare_keys_total}
use Rattle.atom_index.proofs.Keys.{same_key}
use Rattle.mark_core.specs.Kept.{IsKept, has}
use Rattle.mark_core.specs.inner.Arrows.{arrows, ends_from}
use Rattle.mark_core.specs.inner.Reached.{IsReached}
use Rattle.mark_core.proofs.KeptLemmas.{is_kept}
use Rattle.mark_core.proofs.SetLemmas.{has_from_in, in_from_has, same_has}

-- an arrow from one of some atoms, with those before and behind it
record IsPicked (atoms : List AtomKey) (all : List Edge) : Type 0 where
  pub front : List Edge
  pub arrow : Edge
  pub back : List Edge
  pub parts : all ≡ front ++ arrow ∷ back
  pub from : In arrow.from atoms

-- none begins in one of them
abbrev AreAway : List AtomKey → List Edge → Type 0
AreAway atoms all = (arrow : Edge) → In arrow all → In arrow.from atoms → ⊥

picked : (atoms : List AtomKey) (all : List Edge) → IsPicked atoms all ⊎ AreAway atoms all
picked atoms [] = inr (λ arrow h from. absurd h)
picked atoms (arrow ∷ all) = by (picked atoms all) (cases_Bool (has atoms arrow.from))
  where
    further : IsPicked atoms all ⊎ AreAway atoms all → (has atoms arrow.from ≡ false) → IsPicked atoms (arrow ∷ all) ⊎ AreAway atoms (arrow ∷ all)
    further (inl p) away = inl (record { front = arrow ∷ p.front; arrow = p.arrow; back = p.back; parts = ap (λ (es : List Edge). arrow ∷ es) p.parts; from = p.from })
    further (inr none) away = inr each
      where
        each : (other : Edge) → In other (arrow ∷ all) → In other.from atoms → ⊥
        each other (inl e) from = let both : true ≡ false = sym (has_from_in atoms arrow.from (subst (λ (x : Edge). In x.from atoms) (sym e) from)) ∙ away in absurd cc
        each other (inr h) from = none other h from

    by : IsPicked atoms all ⊎ AreAway atoms all → (has atoms arrow.from ≡ true) ⊎ (has atoms arrow.from ≡ false) → IsPicked atoms (arrow ∷ all) ⊎ AreAway atoms (arrow ∷ all)
    by rest (inl here) = inl (record { front = []; arrow = arrow; back = all; parts = refl; from = in_from_has atoms arrow.from here })
    by rest (inr away) = further rest away

-- what is reached from some atoms
record Reaches (all : List Edge) (atoms : List AtomKey) : Type 0 where
  pub found : List AtomKey
  pub is : IsReached all atoms found

no_arrows : (all : List Edge) (atoms : List AtomKey) → AreAway atoms all → Reaches all atoms
no_arrows all atoms away = record {
  found = atoms;
  is = record {
    rooted = λ atom h. h;
    closed = λ arrow there from. absurd (away arrow (in_from_Contains all arrow there) (in_from_Contains atoms arrow.from from));
    least = λ set roots along atom h. roots atom h;
  };
}

-- an arrow from one of the atoms is as good as its end among them
with_end : (all : List Edge) (atoms : List AtomKey) (p : IsPicked atoms all) → Reaches (p.front ++ p.back) (p.arrow.to ∷ atoms) → Reaches all atoms
with_end all atoms p rest = record {
  found = rest.found;
  is = record {
    rooted = λ atom h. rest.is.rooted atom (Contains_from_in (p.arrow.to ∷ atoms) atom (inr (in_from_Contains atoms atom h)));
    closed = λ arrow there from. goes arrow (in_either p.front (p.arrow ∷ p.back) arrow (subst (λ (es : List Edge). In arrow es) p.parts (in_from_Contains all arrow there))) from;
    least = λ set roots along atom h. rest.is.least set (λ other there. starts set roots along other (in_from_Contains (p.arrow.to ∷ atoms) other there))
        (λ arrow there. along arrow (Contains_from_in all arrow (subst (λ (es : List Edge). In arrow es) (sym p.parts) (back arrow (in_either p.front p.back arrow (in_from_Contains (p.front ++ p.back) arrow there)))))) atom h;
  };
}
  where
    goes : (arrow : Edge) → In arrow p.front ⊎ In arrow (p.arrow ∷ p.back) → Contains rest.found arrow.from → Contains rest.found arrow.to
    goes arrow (inl h) from = rest.is.closed arrow (Contains_from_in (p.front ++ p.back) arrow (in_left p.front p.back arrow h)) from
    goes arrow (inr (inl e)) from = rest.is.rooted arrow.to (Contains_from_in (p.arrow.to ∷ atoms) arrow.to (inl (ap (λ (x : Edge). x.to) e)))
    goes arrow (inr (inr h)) from = rest.is.closed arrow (Contains_from_in (p.front ++ p.back) arrow (in_right p.front p.back arrow h)) from

    there : In p.arrow all
    there = subst (λ (es : List Edge). In p.arrow es) (sym p.parts) (in_right p.front (p.arrow ∷ p.back) p.arrow (inl refl))

    starts : (set : AtomKey → Bool) → ((atom : AtomKey) → Contains atoms atom → set atom ≡ true) → ((arrow : Edge) → Contains all arrow → set arrow.from ≡ true → set arrow.to ≡ true) → (other : AtomKey) → (p.arrow.to ≡ other) ⊎ In other atoms → set other ≡ true
    starts set roots along other (inl e) = subst (λ (k : AtomKey). set k ≡ true) e (along p.arrow (Contains_from_in all p.arrow there) (roots p.arrow.from (Contains_from_in atoms p.arrow.from p.from)))
    starts set roots along other (inr h) = roots other (Contains_from_in atoms other h)

    back : (arrow : Edge) → In arrow p.front ⊎ In arrow p.back → In arrow (p.front ++ p.arrow ∷ p.back)
    back arrow (inl h) = in_left p.front (p.arrow ∷ p.back) arrow h
    back arrow (inr h) = in_right p.front (p.arrow ∷ p.back) arrow (inr h)

none_left : (all : List Edge) (atoms : List AtomKey) → length all ≤ 0 → AreAway atoms all
none_left [] atoms low = λ arrow h from. h
none_left (e ∷ es) atoms low = absurd (omega arith)

-- by the number of arrows that are left
reached : (n : ℕ) (all : List Edge) (atoms : List AtomKey) → length all ≤ n → Reaches all atoms
reached zero all atoms low = no_arrows all atoms (none_left all atoms low)
reached (suc n) all atoms low = by (reached n) (picked atoms all)
  where
    by : ((es : List Edge) (more : List AtomKey) → length es ≤ n → Reaches es more) → IsPicked atoms all ⊎ AreAway atoms all → Reaches all atoms
    by fewer (inr away) = no_arrows all atoms away
    by fewer (inl p) =
        let long = ap length p.parts ∙ length-append p.front (p.arrow ∷ p.back) in
        let short = length-append p.front p.back in
        with_end all atoms p (fewer (p.front ++ p.back) (p.arrow.to ∷ atoms) (omega (arith, long, short, low)))

pub kept_exist : (edges supports : List Edge) (roots : List AtomKey) → (kept : List AtomKey) × IsKept edges supports roots kept
kept_exist edges supports roots =
    let all = arrows edges supports in
    let along = reached (length all) all (ends_from roots all) (omega arith) in
    let rising = rising_exists compare_keys_total same_key (roots ++ along.found) in (
      rising.0,
      is_kept edges supports all roots (ends_from roots all) along.found rising.0
          (record {
            all_arrows = IsPermutation-refl all;
            starting = refl;
            reached = along.is;
            same = λ atom. same_has rising.0 (roots ++ along.found) atom (rising.3 atom) (rising.2 atom);
          }) rising.1,
    )
