-- What was reached, by rising key, is what is kept.
use Rattle.std.proofs.Common.{◌≡◌, ◌⊎◌, Bool, true, not, List, ◌++◌, map, Contains, sym, ap, subst, ◌∙◌, inl, inr}
use Rattle.std.specs.Prelude.{All, IfOk, Result, Ok, Err}
use Rattle.std.specs.List.{filter}
use Rattle.std.specs.List.Sorted.{IsPermutation, IsStrictlySortedBy}
use Rattle.std.proofs.lemmas.Bool.{cases_Bool}
use Rattle.std.proofs.lemmas.List.Elements.{All-contains, All-from_recursion}
use Rattle.std.proofs.lemmas.List.Sorted.{Contains-permutation, IsPermutation-sym}
use Rattle.list_lemmas.proofs.Members.{In, Contains_from_in, all_from_in, from_filter, from_map, in_either, in_filter, in_from_Contains, in_left, in_map, in_right}
use Rattle.mo_types.specs.declared.edge.Edge.{Edge}
use Rattle.mo_types.specs.declared.key.AtomKey.{AtomKey}
use Rattle.mo_types.specs.Keys.{compare_keys}
use Rattle.mo_types.specs.declared.memory.OutOfMemory.{OutOfMemory}
use Rattle.mark_core.specs.Kept.{IsClosed, IsKept, begins_away, has, leads_away}
use Rattle.mark_core.specs.inner.Arrows.{arrows, begins_in, end_of, ends_from, reversed}
use Rattle.mark_core.specs.inner.Reached.{IsReached}
use Rattle.mark_core.proofs.SetLemmas.{has_from_in, in_from_has}

an_edge : (edges supports : List Edge) (edge : Edge) → In edge edges → Contains (arrows edges supports) edge
unfolding arrows
an_edge edges supports edge h = Contains_from_in (edges ++ map reversed supports) edge (in_left edges (map reversed supports) edge h)

a_support : (edges supports : List Edge) (support : Edge) → In support supports → Contains (arrows edges supports) (reversed support)
unfolding arrows
a_support edges supports support h = Contains_from_in (edges ++ map reversed supports) (reversed support) (in_right edges (map reversed supports) (reversed support) (in_map reversed supports support h))

either : (edges supports : List Edge) (arrow : Edge) → Contains (arrows edges supports) arrow → In arrow edges ⊎ In arrow (map reversed supports)
unfolding arrows
either edges supports arrow h = in_either edges (map reversed supports) arrow (in_from_Contains (edges ++ map reversed supports) arrow h)

leads : (edges supports : List Edge) (roots : List AtomKey) (set : AtomKey → Bool) → IsClosed edges supports roots set → (arrow : Edge) → In arrow edges ⊎ In arrow (map reversed supports) → set arrow.from ≡ true → set arrow.to ≡ true
leads edges supports roots set closed arrow (inl h) = All-contains (λ (e : Edge). set e.from ≡ true → set e.to ≡ true) edges arrow closed.led (Contains_from_in edges arrow h)
leads edges supports roots set closed arrow (inr h) =
    let it : (support : Edge) × In support supports × (reversed support ≡ arrow) = from_map reversed supports arrow h in
    subst (λ (e : Edge). set e.from ≡ true → set e.to ≡ true) it.2 (All-contains (λ (s : Edge). set s.to ≡ true → set s.from ≡ true) supports it.0 closed.supported (Contains_from_in supports it.0 it.1))

-- ---- what is kept

-- what was reached along all arrows from where those from the roots end, and the roots and the same atoms in order
pub record AreMarked (edges supports all : List Edge) (roots ends found kept : List AtomKey) : Type 0 where
  pub all_arrows : IsPermutation (arrows edges supports) all
  pub starting : ends ≡ ends_from roots all
  pub reached : IsReached all ends found
  pub same : (atom : AtomKey) → has kept atom ≡ has (roots ++ found) atom

keep_root : (edges supports all : List Edge) (roots ends found kept : List AtomKey) → AreMarked edges supports all roots ends found kept → (atom : AtomKey) → In atom roots → has kept atom ≡ true
keep_root edges supports all roots ends found kept marked atom h = marked.same atom ∙ has_from_in (roots ++ found) atom (in_left roots found atom h)

to_kept : (edges supports all : List Edge) (roots ends found kept : List AtomKey) → AreMarked edges supports all roots ends found kept → (atom : AtomKey) → Contains found atom → has kept atom ≡ true
to_kept edges supports all roots ends found kept marked atom h = marked.same atom ∙ has_from_in (roots ++ found) atom (in_right roots found atom (in_from_Contains found atom h))

from_kept : (edges supports all : List Edge) (roots ends found kept : List AtomKey) → AreMarked edges supports all roots ends found kept → (atom : AtomKey) → has kept atom ≡ true → In atom roots ⊎ In atom found
from_kept edges supports all roots ends found kept marked atom h = in_either roots found atom (in_from_has (roots ++ found) atom (sym (marked.same atom) ∙ h))

-- those that were followed are arrows
followed : (edges supports all : List Edge) (arrow : Edge) → IsPermutation (arrows edges supports) all → Contains all arrow → Contains (arrows edges supports) arrow
followed edges supports all arrow moved there = Contains-permutation all (arrows edges supports) arrow (IsPermutation-sym (arrows edges supports) all moved) there

an_end : (all : List Edge) (roots ends : List AtomKey) (arrow : Edge) → ends ≡ ends_from roots all → Contains all arrow → In arrow.from roots → Contains ends arrow.to
unfolding ends_from
an_end all roots ends arrow is there h =
    subst (λ (ks : List AtomKey). Contains ks arrow.to) (sym is)
    (Contains_from_in (map end_of (filter (begins_in roots) all)) arrow.to
    (in_map end_of (filter (begins_in roots) all) arrow (in_filter (begins_in roots) all arrow (in_from_Contains all arrow there) (has_from_in roots arrow.from h))))

from_end : (all : List Edge) (roots ends : List AtomKey) (atom : AtomKey) → ends ≡ ends_from roots all → Contains ends atom → (arrow : Edge) × Contains all arrow × In arrow.from roots × (arrow.to ≡ atom)
unfolding ends_from
from_end all roots ends atom is h =
    let there : In atom (map end_of (filter (begins_in roots) all)) = in_from_Contains (map end_of (filter (begins_in roots) all)) atom (subst (λ (ks : List AtomKey). Contains ks atom) is h) in
    let it : (arrow : Edge) × In arrow (filter (begins_in roots) all) × (end_of arrow ≡ atom) = from_map end_of (filter (begins_in roots) all) atom there in
    let passed : In it.0 all × (begins_in roots it.0 ≡ true) = from_filter (begins_in roots) all it.0 it.1 in
    (it.0, Contains_from_in all it.0 passed.0, in_from_has roots it.0.from passed.1, it.2)

goes_along : (edges supports all : List Edge) (roots ends found kept : List AtomKey) → AreMarked edges supports all roots ends found kept → (arrow : Edge) → Contains all arrow → In arrow.from roots ⊎ In arrow.from found → has kept arrow.to ≡ true
goes_along edges supports all roots ends found kept marked arrow there (inl h) =
    to_kept edges supports all roots ends found kept marked arrow.to (marked.reached.rooted arrow.to (an_end all roots ends arrow marked.starting there h))
goes_along edges supports all roots ends found kept marked arrow there (inr h) =
    to_kept edges supports all roots ends found kept marked arrow.to (marked.reached.closed arrow there (Contains_from_in found arrow.from h))

goes_on : (edges supports all : List Edge) (roots ends found kept : List AtomKey) → AreMarked edges supports all roots ends found kept → (arrow : Edge) → Contains (arrows edges supports) arrow → has kept arrow.from ≡ true → has kept arrow.to ≡ true
goes_on edges supports all roots ends found kept marked arrow there h =
    goes_along edges supports all roots ends found kept marked arrow (Contains-permutation (arrows edges supports) all arrow marked.all_arrows there)
    (from_kept edges supports all roots ends found kept marked arrow.from h)

is_closed : (edges supports all : List Edge) (roots ends found kept : List AtomKey) → AreMarked edges supports all roots ends found kept → IsClosed edges supports roots (has kept)
is_closed edges supports all roots ends found kept marked = record {
  rooted = All-from_recursion (λ atom. has kept atom ≡ true) roots (all_from_in (λ atom. has kept atom ≡ true) roots
      (λ atom h. keep_root edges supports all roots ends found kept marked atom h));
  led = All-from_recursion (λ edge. has kept edge.from ≡ true → has kept edge.to ≡ true) edges (all_from_in (λ edge. has kept edge.from ≡ true → has kept edge.to ≡ true) edges
      (λ edge h. goes_on edges supports all roots ends found kept marked edge (an_edge edges supports edge h)));
  supported = All-from_recursion (λ support. has kept support.to ≡ true → has kept support.from ≡ true) supports (all_from_in (λ support. has kept support.to ≡ true → has kept support.from ≡ true) supports
      (λ support h. goes_on edges supports all roots ends found kept marked (reversed support) (a_support edges supports support h)));
}

in_set : (edges supports : List Edge) (roots : List AtomKey) (set : AtomKey → Bool) → IsClosed edges supports roots set → (atom : AtomKey) → In atom roots → set atom ≡ true
in_set edges supports roots set closed atom h = All-contains (λ a. set a ≡ true) roots atom closed.rooted (Contains_from_in roots atom h)

passes : (edges supports all : List Edge) (roots : List AtomKey) (set : AtomKey → Bool) → IsPermutation (arrows edges supports) all → IsClosed edges supports roots set → (arrow : Edge) → Contains all arrow → set arrow.from ≡ true → set arrow.to ≡ true
passes edges supports all roots set moved closed arrow there = leads edges supports roots set closed arrow (either edges supports arrow (followed edges supports all arrow moved there))

each_in : (edges supports all : List Edge) (roots ends found kept : List AtomKey) → AreMarked edges supports all roots ends found kept → (set : AtomKey → Bool) → IsClosed edges supports roots set → (atom : AtomKey) → In atom roots ⊎ In atom found → set atom ≡ true
each_in edges supports all roots ends found kept marked set closed atom (inl h) = in_set edges supports roots set closed atom h
each_in edges supports all roots ends found kept marked set closed atom (inr h) =
    marked.reached.least set
    (λ end there.
    let it = from_end all roots ends end marked.starting there in
    ap set (sym it.3) ∙ passes edges supports all roots set marked.all_arrows closed it.0 it.1 (in_set edges supports roots set closed it.0.from it.2))
    (passes edges supports all roots set marked.all_arrows closed)
    atom (Contains_from_in found atom h)

is_least : (edges supports all : List Edge) (roots ends found kept : List AtomKey) → AreMarked edges supports all roots ends found kept → (set : AtomKey → Bool) → IsClosed edges supports roots set → All (λ atom. set atom ≡ true) kept
is_least edges supports all roots ends found kept marked set closed =
    All-from_recursion (λ atom. set atom ≡ true) kept (all_from_in (λ atom. set atom ≡ true) kept (λ atom h.
    each_in edges supports all roots ends found kept marked set closed atom (from_kept edges supports all roots ends found kept marked atom (has_from_in kept atom h))))

pub is_kept : (edges supports all : List Edge) (roots ends found kept : List AtomKey) → AreMarked edges supports all roots ends found kept → IsStrictlySortedBy compare_keys kept → IsKept edges supports roots kept
is_kept edges supports all roots ends found kept marked rises = record {
  closed = is_closed edges supports all roots ends found kept marked;
  least = is_least edges supports all roots ends found kept marked;
  rises = rises;
}

-- the same of what was read of the arguments
pub kept_of_read : (edges supports read_edges read_supports all read_all read_again : List Edge) (roots ends read_ends found kept list : List AtomKey) → read_edges ≡ edges → read_supports ≡ supports → read_all ≡ all → read_again ≡ all → read_ends ≡ ends
    → IsPermutation (arrows read_edges read_supports) all → ends ≡ ends_from roots read_all → IsReached read_again read_ends found → ((atom : AtomKey) → has kept atom ≡ has (roots ++ found) atom) → IsStrictlySortedBy compare_keys kept → list ≡ kept → IsKept edges supports roots list
kept_of_read edges supports read_edges read_supports all read_all read_again roots ends read_ends found kept list e s a b r p f h q rises l =
    subst (λ (ks : List AtomKey). IsKept edges supports roots ks) (sym l)
    (is_kept edges supports all roots ends found kept
    (record {
      all_arrows = subst (λ (es : List Edge). IsPermutation (arrows es supports) all) e (subst (λ (ss : List Edge). IsPermutation (arrows read_edges ss) all) s p);
      starting = f ∙ ap (ends_from roots) a;
      reached = subst (λ (es : List Edge). IsReached es ends found) b (subst (λ (rs : List AtomKey). IsReached read_again rs found) r h);
      same = q;
    }) rises)

-- the kept atoms of a list of roots are those of another one with the same atoms
pub kept_by_others : (edges supports : List Edge) (roots others kept : List AtomKey) → ((atom : AtomKey) → has roots atom ≡ has others atom) → IsKept edges supports roots kept → IsKept edges supports others kept
kept_by_others edges supports roots others kept same is = record {
  closed = turned (λ atom. same atom) (has kept) is.closed;
  least = λ set closed. is.least set (back set closed);
  rises = is.rises;
}
  where
    turned : ((atom : AtomKey) → has roots atom ≡ has others atom) → (set : AtomKey → Bool) → IsClosed edges supports roots set → IsClosed edges supports others set
    turned one set closed = record {
      rooted = All-from_recursion (λ atom. set atom ≡ true) others (all_from_in (λ atom. set atom ≡ true) others
          (λ atom h. in_set edges supports roots set closed atom (in_from_has roots atom (one atom ∙ has_from_in others atom h))));
      led = closed.led;
      supported = closed.supported;
    }

    back : (set : AtomKey → Bool) → IsClosed edges supports others set → IsClosed edges supports roots set
    back set closed = record {
      rooted = All-from_recursion (λ atom. set atom ≡ true) roots (all_from_in (λ atom. set atom ≡ true) roots
          (λ atom h. in_set edges supports others set closed atom (in_from_has others atom (sym (same atom) ∙ has_from_in roots atom h))));
      led = closed.led;
      supported = closed.supported;
    }

pub kept_by_set : (result : Result (List AtomKey) OutOfMemory) (edges supports read_edges : List Edge) (roots read_roots others : List AtomKey) → read_edges ≡ edges → ((atom : AtomKey) → has roots atom ≡ has read_roots atom) → read_roots ≡ others → IfOk result (IsKept read_edges supports roots) → IfOk result (IsKept edges supports others)
kept_by_set (Ok kept) edges supports read_edges roots read_roots others f same e is =
    kept_by_others edges supports roots others kept (λ atom. same atom ∙ ap (λ (ks : List AtomKey). has ks atom) e) (subst (λ (es : List Edge). IsKept es supports roots kept) f is)
kept_by_set (Err fault) edges supports read_edges roots read_roots others f same e is = tt

-- ---- what leads to roots

to_roots : (edges : List Edge) (roots kept : List AtomKey) (edge : Edge) → All (λ atom. has kept atom ≡ true) roots → All (λ e. has kept e.from ≡ true → has kept e.to ≡ true) (filter (leads_away roots) edges) → In edge edges → has kept edge.from ≡ true → has kept edge.to ≡ true
to_roots edges roots kept edge rooted led there h = elim (cases_Bool (has roots edge.to)) [
  | inl here ↦ All-contains (λ a. has kept a ≡ true) roots edge.to rooted (Contains_from_in roots edge.to (in_from_has roots edge.to here))
  | inr away ↦ All-contains (λ (e : Edge). has kept e.from ≡ true → has kept e.to ≡ true) (filter (leads_away roots) edges) edge led
      (Contains_from_in (filter (leads_away roots) edges) edge (in_filter (leads_away roots) edges edge there (ap not away))) h
]

by_roots : (supports : List Edge) (roots kept : List AtomKey) (support : Edge) → All (λ atom. has kept atom ≡ true) roots → All (λ s. has kept s.to ≡ true → has kept s.from ≡ true) (filter (begins_away roots) supports) → In support supports → has kept support.to ≡ true → has kept support.from ≡ true
by_roots supports roots kept support rooted led there h = elim (cases_Bool (has roots support.from)) [
  | inl here ↦ All-contains (λ a. has kept a ≡ true) roots support.from rooted (Contains_from_in roots support.from (in_from_has roots support.from here))
  | inr away ↦ All-contains (λ (s : Edge). has kept s.to ≡ true → has kept s.from ≡ true) (filter (begins_away roots) supports) support led
      (Contains_from_in (filter (begins_away roots) supports) support (in_filter (begins_away roots) supports support there (ap not away))) h
]

all_filtered : (P : Edge → Type 0) (test : Edge → Bool) (xs : List Edge) → All P xs → All P (filter test xs)
all_filtered P test xs all = All-from_recursion P (filter test xs) (all_from_in P (filter test xs) (λ x h. All-contains P xs x all (Contains_from_in xs x (from_filter test xs x h).0)))

pub kept_without : (edges supports : List Edge) (roots kept : List AtomKey) → IsKept (filter (leads_away roots) edges) (filter (begins_away roots) supports) roots kept → IsKept edges supports roots kept
kept_without edges supports roots kept is = record {
  closed = record {
    rooted = is.closed.rooted;
    led = All-from_recursion (λ edge. has kept edge.from ≡ true → has kept edge.to ≡ true) edges (all_from_in (λ edge. has kept edge.from ≡ true → has kept edge.to ≡ true) edges
        (λ edge there. to_roots edges roots kept edge is.closed.rooted is.closed.led there));
    supported = All-from_recursion (λ support. has kept support.to ≡ true → has kept support.from ≡ true) supports (all_from_in (λ support. has kept support.to ≡ true → has kept support.from ≡ true) supports
        (λ support there. by_roots supports roots kept support is.closed.rooted is.closed.supported there));
  };
  least = λ set closed. is.least set (record {
    rooted = closed.rooted;
    led = all_filtered (λ edge. set edge.from ≡ true → set edge.to ≡ true) (leads_away roots) edges closed.led;
    supported = all_filtered (λ support. set support.to ≡ true → set support.from ≡ true) (begins_away roots) supports closed.supported;
  });
  rises = is.rises;
}
