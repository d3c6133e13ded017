-- Atoms that arrows lead to.
use Rattle.std.proofs.Common.{◌≡◌, ℕ, ◌+◌, ◌<◌, ◌≤◌, ◌⊎◌, Bool, true, List, [], ◌∷◌, ◌++◌, length, map, take, get_or, Contains, sym, ap, subst, ◌∙◌, inl, inr, arith}
use Rattle.std.proofs.lemmas.List.{map-append, take-append-le, take_all, take_more}
use Rattle.std.proofs.lemmas.List.Sums.{fold-append}
use Rattle.indexmap.specs.IndexSet.{insert_all, insert_key}
use Rattle.list_lemmas.proofs.Inserted.{behind, from_inserted, in_inserted, kept_inserted}
use Rattle.list_lemmas.proofs.Members.{In, in_from_Contains, Contains_from_in, from_last, from_map, in_map}
use Rattle.mo_types.specs.declared.edge.Edge.{Edge}
use Rattle.mo_types.specs.declared.key.AtomKey.{AtomKey}
use Rattle.mark_core.specs.inner.Arrows.{AreFrom, end_of}
use Rattle.mark_core.specs.Kept.{same_atom}
use Rattle.mark_core.specs.inner.Reached.{IsReached}
use Rattle.mark_core.proofs.KeyLemmas.{same_atoms}

-- ---- atoms that are added, each once

pub add_one : (before now new more : List AtomKey) (i : ℕ) (d : AtomKey) → i < length more → now ≡ insert_all same_atom before (take i more) → new ≡ insert_key same_atom now (get_or more i d) → new ≡ insert_all same_atom before (take (i + 1) more)
add_one before now new more i d within all key =
    key ∙ ap (λ ks. insert_key same_atom ks (get_or more i d)) all
    ∙ sym (ap (insert_all same_atom before) (take_more more i d within) ∙ fold-append (insert_key same_atom) before (take i more) (get_or more i d ∷ []))

pub end_one : (before now new : List AtomKey) (arrows : List Edge) (i : ℕ) (d : Edge) → i < length arrows → now ≡ insert_all same_atom before (map end_of (take i arrows)) → new ≡ insert_key same_atom now (end_of (get_or arrows i d)) → new ≡ insert_all same_atom before (map end_of (take (i + 1) arrows))
end_one before now new arrows i d within all key =
    key ∙ ap (λ ks. insert_key same_atom ks (end_of (get_or arrows i d))) all
    ∙ sym (ap (insert_all same_atom before) (ap (map end_of) (take_more arrows i d within) ∙ map-append end_of (take i arrows) (get_or arrows i d ∷ [])) ∙ fold-append (insert_key same_atom) before (map end_of (take i arrows)) (end_of (get_or arrows i d) ∷ []))

-- ---- the search

-- what was found, and that the arrows from the first atoms end in what was found
pub record IsReaching (all : List Edge) (roots found : List AtomKey) (at : ℕ) : Type 0 where
  pub rooted : (atom : AtomKey) → In atom roots → In atom found
  pub closed : (arrow : Edge) → Contains all arrow → In arrow.from (take at found) → In arrow.to found
  pub least : (set : AtomKey → Bool) → ((atom : AtomKey) → Contains roots atom → set atom ≡ true)
      → ((arrow : Edge) → Contains all arrow → set arrow.from ≡ true → set arrow.to ≡ true)
      → (atom : AtomKey) → In atom found → set atom ≡ true

first_least : (roots : List AtomKey) (set : AtomKey → Bool) → ((atom : AtomKey) → Contains roots atom → set atom ≡ true) → (atom : AtomKey) → In atom [] ⊎ In atom roots → set atom ≡ true
first_least roots set rooted atom (inl h) = absurd h
first_least roots set rooted atom (inr h) = rooted atom (Contains_from_in roots atom h)

starts_with : (all : List Edge) (roots : List AtomKey) → IsReaching all roots (insert_all same_atom [] roots) 0
starts_with all roots = record {
  rooted = λ atom h. in_inserted same_atom same_atoms [] roots atom h;
  closed = λ arrow there h. absurd h;
  least = λ set rooted led atom h. first_least roots set rooted atom (from_inserted same_atom same_atoms [] roots atom h);
}

pub starts : (all : List Edge) (roots empty found : List AtomKey) → empty ≡ [] → found ≡ insert_all same_atom empty roots → IsReaching all roots found 0
starts all roots empty found none is =
    let same : insert_all same_atom [] roots ≡ found = sym (is ∙ ap (λ ks. insert_all same_atom ks roots) none) in
    subst (λ (ks : List AtomKey). IsReaching all roots ks 0) same (starts_with all roots)

in_ends : (group : List Edge) (arrow : Edge) → In arrow group → In arrow.to (map end_of group)
in_ends group arrow h = in_map end_of group arrow h

next_least : (all group : List Edge) (roots found : List AtomKey) (atom : AtomKey) (set : AtomKey → Bool)
    → ((arrow : Edge) → Contains all arrow → set arrow.from ≡ true → set arrow.to ≡ true) → AreFrom all atom group
    → ((k : AtomKey) → In k found → set k ≡ true) → In atom found → (k : AtomKey) → In k found ⊎ In k (map end_of group) → set k ≡ true
next_least all group roots found atom set led from old there k (inl h) = old k h
next_least all group roots found atom set led from old there k (inr h) =
    let it : (arrow : Edge) × In arrow group × (end_of arrow ≡ k) = from_map end_of group k h in
    let of : Contains all it.0 × (it.0.from ≡ atom) = from.only it.0 (Contains_from_in group it.0 it.1) in
    let passes : set it.0.from ≡ true = ap set of.1 ∙ old atom there in
    ap set (sym it.2) ∙ led it.0 of.0 passes

next_closed : (all group : List Edge) (found : List AtomKey) (at : ℕ) (atom : AtomKey) → AreFrom all atom group
    → ((arrow : Edge) → Contains all arrow → In arrow.from (take at found) → In arrow.to found)
    → (arrow : Edge) → Contains all arrow → In arrow.from (take at found) ⊎ (atom ≡ arrow.from) → In arrow.to (insert_all same_atom found (map end_of group))
next_closed all group found at atom from closed arrow there (inl h) = kept_inserted same_atom same_atoms found (map end_of group) arrow.to (closed arrow there h)
next_closed all group found at atom from closed arrow there (inr e) =
    in_inserted same_atom same_atoms found (map end_of group) arrow.to (in_ends group arrow (in_from_Contains group arrow (from.each arrow there (sym e))))

front_more : (found rest : List AtomKey) (at : ℕ) (atom : AtomKey) → at < length found → get_or found at atom ≡ atom → take (at + 1) (found ++ rest) ≡ take at found ++ atom ∷ []
front_more found rest at atom low is =
    let few : at + 1 ≤ length found = omega arith in
    take-append-le (at + 1) found rest few ∙ take_more found at atom low ∙ ap (λ k. take at found ++ k ∷ []) is

next_with : (all group : List Edge) (roots found : List AtomKey) (at : ℕ) (atom : AtomKey) → IsReaching all roots found at → at < length found → get_or found at atom ≡ atom → AreFrom all atom group → IsReaching all roots (insert_all same_atom found (map end_of group)) (at + 1)
next_with all group roots found at atom reaching low is from =
    let front : (rest : List AtomKey) × (insert_all same_atom found (map end_of group) ≡ found ++ rest) = behind same_atom same_atoms found (map end_of group) in
    let first : take (at + 1) (insert_all same_atom found (map end_of group)) ≡ take at found ++ atom ∷ [] = ap (take (at + 1)) front.1 ∙ front_more found front.0 at atom low is in
    let there : In atom found = in_from_Contains found atom (at, low, is) in
    record {
      rooted = λ k h. kept_inserted same_atom same_atoms found (map end_of group) k (reaching.rooted k h);
      closed = λ arrow in_all h. next_closed all group found at atom from reaching.closed arrow in_all (from_last (take at found) atom arrow.from (subst (λ (ks : List AtomKey). In arrow.from ks) first h));
      least = λ set rooted led k h. next_least all group roots found atom set led from (reaching.least set rooted led) there k (from_inserted same_atom same_atoms found (map end_of group) k h);
    }

pub next : (all group : List Edge) (roots found new : List AtomKey) (at : ℕ) (atom : AtomKey) → IsReaching all roots found at → at < length found → get_or found at atom ≡ atom → AreFrom all atom group → new ≡ insert_all same_atom found (map end_of group) → IsReaching all roots new (at + 1)
next all group roots found new at atom reaching low is from same =
    subst (λ (ks : List AtomKey). IsReaching all roots ks (at + 1)) (sym same) (next_with all group roots found at atom reaching low is from)

pub ends : (all : List Edge) (roots found : List AtomKey) (at : ℕ) → IsReaching all roots found at → length found ≤ at → IsReached all roots found
ends all roots found at reaching past =
    let whole : take at found ≡ found = take_all at found past in
    record {
      rooted = λ atom h. Contains_from_in found atom (reaching.rooted atom (in_from_Contains roots atom h));
      closed = λ arrow there h. Contains_from_in found arrow.to (reaching.closed arrow there (subst (λ (ks : List AtomKey). In arrow.from ks) (sym whole) (in_from_Contains found arrow.from h)));
      least = λ set rooted led atom h. reaching.least set rooted led atom (in_from_Contains found atom h);
    }
