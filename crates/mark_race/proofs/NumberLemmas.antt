-- Atoms that are numbered, and arrows by their numbers.
use Rattle.std.proofs.Common.{◌≡◌, ℕ, suc, ◌+◌, ◌<◌, ◌≤◌, Bool, true, false, List, [], ◌∷◌, ◌++◌, All, Some, map, length, take, get_or, if◌then◌else◌, refl, sym, ◌∙◌, ap, subst, arith, length-append, append_assoc}
use Rattle.std.specs.Prelude.{slice_get}
use Rattle.std.specs.List.{IsDistinct}
use Rattle.std.proofs.lemmas.List.{append-nil, get_or_append_left, length-map, map-append, take_all, take_more}
use Rattle.std.proofs.lemmas.List.Elements.{All-append, All-cons, All-nil}
use Rattle.std.proofs.lemmas.Option.{get_or_from_slice_get, slice_get_within}
use Rattle.indexmap.specs.IndexSet.{insert_key}
use Rattle.list_lemmas.proofs.Inserted.{behind}
use Rattle.mark_core.specs.Kept.{same_atom}
use Rattle.mark_core.specs.inner.Arrows.{reversed}
use Rattle.mark_core.proofs.KeyLemmas.{no_atom, same_atoms}
use Rattle.mo_types.specs.declared.edge.Edge.{Edge}
use Rattle.mo_types.specs.declared.key.AtomKey.{AtomKey}
use Rattle.mark_race.specs.declared.numbers.Arrow.{Arrow}
use Rattle.mark_race.specs.inner.Numbers.{Adds, AreNumbered, IsAt, IsWithin, atom_at, edge_of}

-- ---- what is named stays named

same_edge : (atoms rest : List AtomKey) (a : Arrow) → IsWithin (length atoms) a → edge_of (atoms ++ rest) a ≡ edge_of atoms a
same_edge atoms rest a is =
    ap (λ (k : AtomKey). record { from = k; to = atom_at (atoms ++ rest) a.to }) (get_or_append_left atoms rest no_atom a.from is.0)
    ∙ ap (λ (k : AtomKey). record { from = atom_at atoms a.from; to = k }) (get_or_append_left atoms rest no_atom a.to is.1)

same_edges : (atoms rest : List AtomKey) (arrows : List Arrow) → All (IsWithin (length atoms)) arrows → map (edge_of (atoms ++ rest)) arrows ≡ map (edge_of atoms) arrows
same_edges atoms rest [] all = refl
same_edges atoms rest (a ∷ more) all =
    ap (λ (e : Edge). e ∷ map (edge_of (atoms ++ rest)) more) (same_edge atoms rest a (all 0 a (omega arith)))
    ∙ ap (λ (es : List Edge). edge_of atoms a ∷ es) (same_edges atoms rest more (λ k d low. all (suc k) d (omega arith)))

wider : (n m : ℕ) → n ≤ m → (arrows : List Arrow) → All (IsWithin n) arrows → All (IsWithin m) arrows
wider n m le arrows all k d low = let is : IsWithin n (get_or arrows k d) = all k d low in (omega (arith, is.0), omega (arith, is.1))

-- ---- one arrow more

pub adds_none : (atoms : List AtomKey) (arrows : List Arrow) → Adds [] atoms arrows atoms arrows
adds_none atoms arrows = record { each = λ all is. subst (λ (es : List Edge). AreNumbered es atoms arrows) (sym (append-nil all)) is; few = omega arith; once = λ h. h }

-- an atom that was there before
pub stands_at : (atoms : List AtomKey) (atom : AtomKey) (at : ℕ) → at < length atoms → atom_at atoms at ≡ atom → IsAt atoms atom atoms at
stands_at atoms atom at within there = record { rest = []; grown = sym (append-nil atoms); within = within; there = there }

pub is_at : (atoms new : List AtomKey) (atom : AtomKey) (at : ℕ) → new ≡ insert_key same_atom atoms atom → (k : AtomKey) × (slice_get new at ≡ Some k) × (same_atom atom k ≡ true) → IsAt atoms atom new at
is_at atoms new atom at is stored =
    let more : (rest : List AtomKey) × (insert_key same_atom atoms atom ≡ atoms ++ rest) = behind same_atom same_atoms atoms (atom ∷ []) in
    record {
      rest = more.0;
      grown = is ∙ more.1;
      within = slice_get_within new at stored.0 stored.1;
      there = get_or_from_slice_get new at stored.0 no_atom stored.1 ∙ sym (same_atoms atom stored.0 stored.2);
    }

pub adds_one : (atoms mid new : List AtomKey) (arrows new_arrows : List Arrow) (from to : AtomKey) (i j : ℕ) → IsAt atoms from mid i → IsAt mid to new j → length mid ≤ length atoms + 1 → length new ≤ length mid + 1 → (IsDistinct same_atom atoms → IsDistinct same_atom new)
    → new_arrows ≡ arrows ++ record { from = i; to = j } ∷ [] → Adds (record { from = from; to = to } ∷ []) atoms arrows new new_arrows
adds_one atoms mid new arrows new_arrows from to i j first second one two apart grown = record {
  each = λ all is. subst (AreNumbered (all ++ edge ∷ []) new) (sym grown) (record {
    named = map-append (edge_of new) arrows (arrow ∷ []) ∙ (ap (λ (es : List Edge). es ++ edge_of new arrow ∷ []) (olds is.within ∙ is.named) ∙ ap (λ (e : Edge). all ++ e ∷ []) last);
    within = All-append (IsWithin (length new)) arrows (arrow ∷ []) (wider (length atoms) (length new) (omega (arith, shorter, shorter_mid)) arrows is.within)
        (All-cons (IsWithin (length new)) arrow [] (omega (arith, first.within, shorter_mid), second.within) (All-nil (IsWithin (length new))));
  });
  few = omega (arith, one, two);
  once = apart;
}
  where
    arrow : Arrow
    arrow = record { from = i; to = j }

    edge : Edge
    edge = record { from = from; to = to }

    shorter : length atoms ≤ length mid
    shorter = omega (arith, ap length first.grown, length-append atoms first.rest)

    shorter_mid : length mid ≤ length new
    shorter_mid = omega (arith, ap length second.grown, length-append mid second.rest)

    olds : All (IsWithin (length atoms)) arrows → map (edge_of new) arrows ≡ map (edge_of atoms) arrows
    olds within =
        ap (λ (ks : List AtomKey). map (edge_of ks) arrows) second.grown
        ∙ (same_edges mid second.rest arrows (wider (length atoms) (length mid) shorter arrows within)
        ∙ (ap (λ (ks : List AtomKey). map (edge_of ks) arrows) first.grown ∙ same_edges atoms first.rest arrows within))

    source : atom_at new i ≡ from
    source = ap (λ (ks : List AtomKey). atom_at ks i) second.grown ∙ (get_or_append_left mid second.rest no_atom i first.within ∙ first.there)

    last : edge_of new arrow ≡ edge
    last = ap (λ (k : AtomKey). record { from = k; to = atom_at new j }) source ∙ ap (λ (k : AtomKey). record { from = from; to = k }) second.there

-- ---- arrows after arrows

pub adds_more : (more : List Edge) (edge : Edge) (atoms mid new : List AtomKey) (arrows mid_arrows new_arrows : List Arrow) → Adds more atoms arrows mid mid_arrows → Adds (edge ∷ []) mid mid_arrows new new_arrows → Adds (more ++ edge ∷ []) atoms arrows new new_arrows
adds_more more edge atoms mid new arrows mid_arrows new_arrows first second = record {
  each = λ all is. subst (λ (es : List Edge). AreNumbered es new new_arrows) (append_assoc all more (edge ∷ [])) (second.each (all ++ more) (first.each all is));
  few = omega (arith, first.few, second.few, length-append more (edge ∷ []));
  once = λ h. second.once (first.once h);
}

pub edge_next : (edges : List Edge) (i : ℕ) (d : Edge) (atoms mid new : List AtomKey) (arrows mid_arrows new_arrows : List Arrow) → i < length edges → Adds (take i edges) atoms arrows mid mid_arrows → Adds (get_or edges i d ∷ []) mid mid_arrows new new_arrows → Adds (take (i + 1) edges) atoms arrows new new_arrows
edge_next edges i d atoms mid new arrows mid_arrows new_arrows low first second =
    subst (λ (es : List Edge). Adds es atoms arrows new new_arrows) (sym (take_more edges i d low)) (adds_more (take i edges) (get_or edges i d) atoms mid new arrows mid_arrows new_arrows first second)

pub support_next : (supports : List Edge) (i : ℕ) (d : Edge) (atoms mid new : List AtomKey) (arrows mid_arrows new_arrows : List Arrow) → i < length supports → Adds (map reversed (take i supports)) atoms arrows mid mid_arrows → Adds (reversed (get_or supports i d) ∷ []) mid mid_arrows new new_arrows → Adds (map reversed (take (i + 1) supports)) atoms arrows new new_arrows
support_next supports i d atoms mid new arrows mid_arrows new_arrows low first second =
    subst (λ (es : List Edge). Adds es atoms arrows new new_arrows) (sym (ap (map reversed) (take_more supports i d low) ∙ map-append reversed (take i supports) (get_or supports i d ∷ [])))
    (adds_more (map reversed (take i supports)) (reversed (get_or supports i d)) atoms mid new arrows mid_arrows new_arrows first second)

pub edges_end : (edges : List Edge) (i : ℕ) (atoms new : List AtomKey) (arrows new_arrows : List Arrow) → length edges ≤ i → Adds (take i edges) atoms arrows new new_arrows → Adds edges atoms arrows new new_arrows
edges_end edges i atoms new arrows new_arrows past so = subst (λ (es : List Edge). Adds es atoms arrows new new_arrows) (take_all i edges past) so

pub supports_end : (supports : List Edge) (i : ℕ) (atoms new : List AtomKey) (arrows new_arrows : List Arrow) → length supports ≤ i → Adds (map reversed (take i supports)) atoms arrows new new_arrows → Adds (map reversed supports) atoms arrows new new_arrows
supports_end supports i atoms new arrows new_arrows past so = subst (λ (es : List Edge). Adds (map reversed es) atoms arrows new new_arrows) (take_all i supports past) so

-- ---- all

pub all_numbered : (edges supports : List Edge) (none mid new : List AtomKey) (empty mid_arrows new_arrows : List Arrow) → none ≡ [] → empty ≡ [] → Adds edges none empty mid mid_arrows → Adds (map reversed supports) mid mid_arrows new new_arrows → AreNumbered (edges ++ map reversed supports) new new_arrows
all_numbered edges supports none mid new empty mid_arrows new_arrows e f first second =
    second.each edges (first.each [] (record { named = ap (map (edge_of none)) f; within = subst (All (IsWithin (length none))) (sym f) (All-nil (IsWithin (length none))) }))

-- at most one is put behind a list where the answer says so
pub one_more : (n m : ℕ) (added : Bool) → m ≡ n + (if added then 1 else 0) → m ≤ n + 1
one_more n m true e = omega (arith, e)
one_more n m false e = omega (arith, e)

pub arrows_few : (edges supports : List Edge) (atoms : List AtomKey) (arrows : List Arrow) → AreNumbered (edges ++ map reversed supports) atoms arrows → length arrows ≡ length edges + length supports
arrows_few edges supports atoms arrows so =
    sym (length-map arrows (edge_of atoms)) ∙ (ap length so.named ∙ (length-append edges (map reversed supports) ∙ ap (λ (n : ℕ). length edges + n) (length-map supports reversed)))
