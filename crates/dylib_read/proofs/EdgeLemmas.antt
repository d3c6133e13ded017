-- What an edge of a node does to the marks, and how those of a node come to be.
use Rattle.std.proofs.Common.{◌≡◌, ℕ, ◌+◌, ◌-◌, ◌<◌, ◌≤◌, ◌⊎◌, inl, inr, true, false, List, [], ◌∷◌, ◌++◌, length, take, drop, map, set, get_or, Option, Some, None, refl, sym, ap, subst, ◌∙◌, arith, append_assoc, append-nil, nat_lt}
use Rattle.std.specs.Option.{option_map_or, is_some}
use Rattle.std.proofs.Math.ListN.{get_or-eq_default}
use Rattle.std.proofs.lemmas.Bool.{and_parts, cases_eq, cases_lt, false≢true, ltb-true, true≢false}
use Rattle.std.proofs.lemmas.List.{take_more, get_or-set_same, get_or-set_other, length-set, map_push, take-append-le, drop-append-le, length-append, length-drop}
use Rattle.dylib_read.specs.declared.trie_node.Edge.{Edge}
use Rattle.dylib_read.specs.declared.trie_node.Node.{Node}
use Rattle.dylib_read.specs.declared.trie_walk.Bound.{Bound}
use Rattle.dylib_read.specs.declared.trie_walk.Link.{Link}
use Rattle.dylib_read.specs.declared.trie_walk.Source.{Source}
use Rattle.dylib_read.specs.TrieNodes.{label, node_at}
use Rattle.dylib_read.specs.Trie.{HasEdge, edges_of}
use Rattle.dylib_read.specs.inner.TrieLinks.{AreLinks, Follows, IsClosed, IsEarly, IsGone, IsLink, IsPassed, IsTaken, IsTraced, bars, bound_of, bounds_of, is_ahead, mark, narrowed, own_at, trace}
use Rattle.dylib_read.proofs.OwnLemmas.{has_edge, one_link, same_edge}

-- the marks before a node, and those that its first k edges have made
pub record IsEntering (trie : List ℕ) (links : List (Option Link)) (led : List (Option Source)) (pool bounds : List Bound) (at k : ℕ) : Type 0 where
  pub walked : AreLinks trie links led pool at k
  pub link : Link
  pub marked : mark links at ≡ Some link
  pub bounds_are : bounds ≡ own_at trie at (bounds_of pool link) k
  pub closed : IsClosed trie links led pool at link k

-- ---- what stays

pub bounds_kept : (pool more : List Bound) (link : Link) → link.first + link.count ≤ length pool → bounds_of (pool ++ more) link ≡ bounds_of pool link
unfolding bounds_of
bounds_kept pool more link inside =
    let rest : drop link.first (pool ++ more) ≡ drop link.first pool ++ more = drop-append-le link.first pool more (omega arith) in
    ap (take link.count) rest ∙ take-append-le link.count (drop link.first pool) more (omega (arith, length-drop link.first pool))

pub early_more : (n k from number : ℕ) → IsEarly n k from number → IsEarly n (k + 1) from number
early_more n k from number (inl low) = inl low
early_more n k from number (inr both) = inr (both.0, omega (arith, both.1))

pub early_ends : (n k from number : ℕ) → IsEarly n k from number → IsEarly (n + 1) 0 from number
early_ends n k from number (inl low) = inl (omega arith)
early_ends n k from number (inr both) = inl (omega (arith, both.0))

-- marks and bounds that are there stay as they are
pub record AreKept (links new : List (Option Link)) (pool grown : List Bound) : Type 0 where
  pub marks : (p : ℕ) (link : Link) → mark links p ≡ Some link → mark new p ≡ Some link
  pub bounds : (p : ℕ) (link : Link) → mark links p ≡ Some link → bounds_of grown link ≡ bounds_of pool link

pub link_kept : (trie : List ℕ) (links new : List (Option Link)) (pool grown : List Bound) (n k m j at : ℕ) (link : Link) → AreKept links new pool grown → ((from number : ℕ) → IsEarly n k from number → IsEarly m j from number) → mark links at ≡ Some link → (at ≡ 0) ⊎ IsLink trie links pool n k at link → (at ≡ 0) ⊎ IsLink trie new grown m j at link
link_kept trie links new pool grown n k m j at link kept later marked (inl e) = inl e
link_kept trie links new pool grown n k m j at link kept later marked (inr made) =
    let same : bounds_of grown made.source ≡ bounds_of pool made.source = kept.bounds link.from made.source made.marked in
    inr (record {
      child = made.child;
      number = made.number;
      has = made.has;
      early = later link.from made.number made.early;
      forward = made.forward;
      source = made.source;
      marked = kept.marks link.from made.source made.marked;
      taken = subst (λ (b : List Bound). bars trie (own_at trie link.from b made.number) (label trie link.edge) ≡ false) (sym same) made.taken;
      bounds = kept.bounds at link marked ∙ (made.bounds ∙ ap (λ (b : List Bound). narrowed trie (own_at trie link.from b made.number) (label trie link.edge)) (sym same));
    })

pub trace_kept : (trie : List ℕ) (links new : List (Option Link)) (pool grown : List Bound) (n k m j at : ℕ) (source : Source) → AreKept links new pool grown → ((from number : ℕ) → IsEarly n k from number → IsEarly m j from number) → IsTraced trie links n k at source → IsTraced trie new m j at source
trace_kept trie links new pool grown n k m j at source kept later is = record {
  edge = is.edge;
  has = is.has;
  child = is.child;
  early = later source.from source.number is.early;
  marked = record { link = is.marked.link; is = kept.marks source.from is.marked.link is.marked.is };
}

pub taken_kept : (trie : List ℕ) (links new : List (Option Link)) (pool grown : List Bound) (at : ℕ) (link : Link) (number : ℕ) (edge : Edge) → AreKept links new pool grown → mark links at ≡ Some link → IsTaken trie links pool at link number edge → IsTaken trie new grown at link number edge
taken_kept trie links new pool grown at link number edge kept marked is = record {
  forward = is.forward;
  next = is.next;
  marked = kept.marks edge.child is.next is.marked;
  from = is.from;
  edge_is = is.edge_is;
  bounds = kept.bounds edge.child is.next is.marked
      ∙ (is.bounds ∙ ap (λ (b : List Bound). narrowed trie (own_at trie at b number) (label trie edge)) (sym (kept.bounds at link marked)));
}

pub closed_kept : (trie : List ℕ) (links new : List (Option Link)) (led traced : List (Option Source)) (pool grown : List Bound) (at : ℕ) (link : Link) (k : ℕ) → AreKept links new pool grown → ((p : ℕ) (s : Source) → trace led p ≡ Some s → trace traced p ≡ Some s) → mark links at ≡ Some link → IsClosed trie links led pool at link k → IsClosed trie new traced grown at link k
closed_kept trie links new led traced pool grown at link k kept keep marked closed = record {
  node = closed.node;
  there = closed.there;
  traces = λ number edge has low within. keep edge.child (record { from = at; number = number }) (closed.traces number edge has low within);
  takes = λ number edge has low free.
      taken_kept trie links new pool grown at link number edge kept marked
      (closed.takes number edge has low (subst (λ (b : List Bound). bars trie (own_at trie at b number) (label trie edge) ≡ false) (kept.bounds at link marked) free));
}

-- ---- an edge leaves a trace

pub not_source : (x : Option Source) (s : Source) → x ≡ None → x ≡ Some s → ⊥
not_source x s none some = false≢true (ap is_some (sym none ∙ some))

pub trace_keeps : (led traced : List (Option Source)) (child : ℕ) (source : Source) → trace led child ≡ None → traced ≡ set led child (Some source) → (p : ℕ) (s : Source) → trace led p ≡ Some s → trace traced p ≡ Some s
trace_keeps led traced child source free e p s some =
    rw e (get_or-set_other led child p (Some source) None (λ same. not_source (trace led p) s (subst (λ (q : ℕ). trace led q ≡ None) (sym same) free) some)) ∙ some

pub trace_other : (led traced : List (Option Source)) (child : ℕ) (source : Source) → traced ≡ set led child (Some source) → (p : ℕ) → (p ≡ child → ⊥) → trace traced p ≡ trace led p
trace_other led traced child source e p apart = rw e (get_or-set_other led child p (Some source) None apart)

pub trace_here : (led traced : List (Option Source)) (child : ℕ) (source : Source) → child < length led → traced ≡ set led child (Some source) → trace traced child ≡ Some source
trace_here led traced child source within e = rw e (get_or-set_same led child (Some source) None within)

pub source_within : (led : List (Option Source)) (p : ℕ) (s : Source) → trace led p ≡ Some s → p < length led
source_within led p s some = by (cases_lt p (length led))
  where
    by : (p < length led) ⊎ (length led ≤ p) → p < length led
    by (inl low) = low
    by (inr past) = absurd (not_source (trace led p) s (get_or-eq_default led None past) some)

pub one_source : (x : Option Source) (a b : Source) → x ≡ Some a → x ≡ Some b → a ≡ b
one_source x a b p q = ap (λ (o : Option Source). option_map_or (λ (s : Source). s) o a) (sym p ∙ q)

-- ---- one edge of a node

-- what has become of the marks with an edge of the node at `at`
pub record IsMoved (trie : List ℕ) (links new : List (Option Link)) (led traced : List (Option Source)) (pool grown : List Bound) (at k : ℕ) (edge : Edge) (link : Link) : Type 0 where
  kept : AreKept links new pool grown
  long : length new ≡ length links
  back : (p : ℕ) (l : Link) → p < at + 1 → mark new p ≡ Some l → mark links p ≡ Some l
  inside : (p : ℕ) (l : Link) → mark new p ≡ Some l → l.first + l.count ≤ length grown
  sound : (p : ℕ) (l : Link) → mark new p ≡ Some l → (p ≡ 0) ⊎ IsLink trie new grown at (k + 1) p l
  covered : (p : ℕ) (l : Link) → mark new p ≡ Some l → trace traced p ≡ None → p ≡ 0
  taken : bars trie (own_at trie at (bounds_of pool link) k) (label trie edge) ≡ false → IsTaken trie new grown at link k edge

pub covered_more : (trie : List ℕ) (links : List (Option Link)) (led traced : List (Option Source)) (pool : List Bound) (n k child : ℕ) (source : Source) → AreLinks trie links led pool n k → trace led child ≡ None → traced ≡ set led child (Some source) → (p : ℕ) (l : Link) → mark links p ≡ Some l → trace traced p ≡ None → p ≡ 0
covered_more trie links led traced pool n k child source walked free e p l marked none = by (cases_eq p child)
  where
    by : (p ≡ child) ⊎ (p ≡ child → ⊥) → p ≡ 0
    by (inl same) = walked.covered p l marked (subst (λ (q : ℕ). trace led q ≡ None) (sym same) free)
    by (inr apart) = walked.covered p l marked (sym (trace_other led traced child source e p apart) ∙ none)

pub moved_passed : (trie : List ℕ) (links new : List (Option Link)) (led traced : List (Option Source)) (pool grown bounds : List Bound) (at k : ℕ) (edge : Edge) (link : Link) (source : Source) → AreLinks trie links led pool at k → trace led edge.child ≡ None → traced ≡ set led edge.child (Some source) → bounds ≡ own_at trie at (bounds_of pool link) k → IsPassed trie edge links new pool grown bounds → IsMoved trie links new led traced pool grown at k edge link
moved_passed trie links new led traced pool grown bounds at k edge link source walked free e bounds_are passed =
    subst (λ (n : List (Option Link)). IsMoved trie links n led traced pool grown at k edge link) (sym passed.links_are)
    (subst (λ (g : List Bound). IsMoved trie links links led traced pool g at k edge link) (sym passed.pool_is) (record {
      kept = same;
      long = refl;
      back = λ p l low marked. marked;
      inside = walked.inside;
      sound = λ p l marked. link_kept trie links links pool pool at k at (k + 1) p l same (λ from number early. early_more at k from number early) marked (walked.sound p l marked);
      covered = covered_more trie links led traced pool at k edge.child source walked free e;
      taken = λ open'. absurd (true≢false (sym passed.barred ∙ (ap (λ (b : List Bound). bars trie b (label trie edge)) bounds_are ∙ open')));
    }))
  where
    same : AreKept links links pool pool
    same = record { marks = λ p l marked. marked; bounds = λ p l marked. refl }

-- the mark that is new
pub record IsNew (links new : List (Option Link)) (pool grown : List Bound) (child : ℕ) (link : Link) (more : List Bound) : Type 0 where
  free : mark links child ≡ None
  here : mark new child ≡ Some link
  other : (p : ℕ) → (p ≡ child → ⊥) → mark new p ≡ mark links p
  long : length new ≡ length links
  bounds : bounds_of grown link ≡ more
  inside : link.first + link.count ≤ length grown
  longer : length pool ≤ length grown

pub new_bounds : (pool grown more : List Bound) (link : Link) → grown ≡ pool ++ more → link.first ≡ length pool → link.count ≡ length grown - length pool → bounds_of grown link ≡ more
unfolding bounds_of
new_bounds pool grown more link e first count =
    let long : length grown ≡ length pool + length more = ap length e ∙ length-append pool more in
    let rest : drop link.first grown ≡ more = rw (first, e) (drop_front pool more) in
    let few : link.count ≡ length more = omega (arith, long, count) in
    rw (rest, few) (take_whole more)
  where
    drop_front : (xs ys : List Bound) → drop (length xs) (xs ++ ys) ≡ ys
    drop_front [] ys = refl
    drop_front (x ∷ xs) ys = drop_front xs ys

    take_whole : (xs : List Bound) → take (length xs) xs ≡ xs
    take_whole [] = refl
    take_whole (x ∷ xs) = ap (λ (ys : List Bound). x ∷ ys) (take_whole xs)

pub is_new : (links new : List (Option Link)) (pool grown more : List Bound) (child : ℕ) (link : Link) → mark links child ≡ None → child < length links → new ≡ set links child (Some link) → grown ≡ pool ++ more → link.first ≡ length pool → link.count ≡ length grown - length pool → IsNew links new pool grown child link more
is_new links new pool grown more child link free within e grows first count =
    let long : length grown ≡ length pool + length more = ap length grows ∙ length-append pool more in
    record {
      free = free;
      here = rw e (get_or-set_same links child (Some link) None within);
      other = λ p apart. rw e (get_or-set_other links child p (Some link) None apart);
      long = rw e (length-set links child (Some link));
      bounds = new_bounds pool grown more link grows first count;
      inside = omega (arith, long, first, count);
      longer = omega (arith, long);
    }

pub not_both : (x : Option Link) (link : Link) → x ≡ None → x ≡ Some link → ⊥
not_both x link none some = false≢true (ap is_some (sym none ∙ some))

pub new_apart : (links new : List (Option Link)) (pool grown more : List Bound) (child : ℕ) (link : Link) → IsNew links new pool grown child link more → (p : ℕ) (l : Link) → mark links p ≡ Some l → p ≡ child → ⊥
new_apart links new pool grown more child link is p l marked same =
    not_both (mark links p) l (subst (λ (q : ℕ). mark links q ≡ None) (sym same) is.free) marked

pub new_kept : (links new : List (Option Link)) (pool grown more : List Bound) (child : ℕ) (link : Link) → IsNew links new pool grown child link more → grown ≡ pool ++ more → ((p : ℕ) (l : Link) → mark links p ≡ Some l → l.first + l.count ≤ length pool) → AreKept links new pool grown
new_kept links new pool grown more child link is grows inside = record {
  marks = λ p l marked. is.other p (new_apart links new pool grown more child link is p l marked) ∙ marked;
  bounds = λ p l marked. ap (λ (b : List Bound). bounds_of b l) grows ∙ bounds_kept pool more l (inside p l marked);
}

pub ahead_parts : (links : List (Option Link)) (from : ℕ) (edge : Edge) → is_ahead links from edge ≡ true → (from < edge.child) × (edge.child < length links)
unfolding is_ahead
ahead_parts links from edge ahead =
    let parts = and_parts (nat_lt from edge.child) (nat_lt edge.child (length links)) ahead in
    (ltb-true from edge.child parts.0, ltb-true edge.child (length links) parts.1)

pub unmarked : (trie : List ℕ) (links : List (Option Link)) (led : List (Option Source)) (pool : List Bound) (n k child : ℕ) → AreLinks trie links led pool n k → 0 < child → trace led child ≡ None → (x : Option Link) → mark links child ≡ x → x ≡ None
unmarked trie links led pool n k child walked some free None is = refl
unmarked trie links led pool n k child walked some free (Some l) is = absurd (omega (arith, some, walked.covered child l is free))

pub moved_gone : (trie : List ℕ) (links new : List (Option Link)) (led traced : List (Option Source)) (pool grown bounds : List Bound) (at k : ℕ) (edge : Edge) (link : Link) → AreLinks trie links led pool at k → mark links at ≡ Some link → HasEdge trie at k edge → trace led edge.child ≡ None → traced ≡ set led edge.child (Some (record { from = at; number = k })) → bounds ≡ own_at trie at (bounds_of pool link) k → IsGone trie (record { from = at; number = k }) edge links new pool grown bounds → IsMoved trie links new led traced pool grown at k edge link
moved_gone trie links new led traced pool grown bounds at k edge link walked marked has free e bounds_are gone = record {
  kept = kept;
  long = is.long;
  back = λ p l low there. sym (is.other p (λ same. omega (arith, low, same, parts.0))) ∙ there;
  inside = λ p l there. inside p l there (cases_eq p edge.child);
  sound = λ p l there. sound p l there (cases_eq p edge.child);
  covered = λ p l there none. covered p l there none (cases_eq p edge.child);
  taken = λ open'. record { forward = parts.0; next = next; marked = is.here; from = refl; edge_is = refl; bounds = narrow_is ∙ ap (λ (b : List Bound). narrowed trie (own_at trie at b k) (label trie edge)) (sym same) };
}
  where
    parts : (at < edge.child) × (edge.child < length links)
    parts = ahead_parts links at edge gone.ahead

    next : Link
    next = record { from = at; edge = edge; first = length pool; count = length grown - length pool }

    is : IsNew links new pool grown edge.child next (narrowed trie bounds (label trie edge))
    is =
        is_new links new pool grown (narrowed trie bounds (label trie edge)) edge.child next
        (unmarked trie links led pool at k edge.child walked (omega (arith, parts.0)) free (mark links edge.child) refl ∙ refl)
        parts.1 gone.links_are gone.pool_is refl refl

    kept : AreKept links new pool grown
    kept = new_kept links new pool grown (narrowed trie bounds (label trie edge)) edge.child next is gone.pool_is walked.inside

    narrow_is : bounds_of grown next ≡ narrowed trie (own_at trie at (bounds_of pool link) k) (label trie edge)
    narrow_is = is.bounds ∙ ap (λ (b : List Bound). narrowed trie b (label trie edge)) bounds_are

    same : bounds_of grown link ≡ bounds_of pool link
    same = kept.bounds at link marked

    made : IsLink trie new grown at (k + 1) edge.child next
    made = record {
      child = refl;
      number = k;
      has = has;
      early = inr (refl, omega arith);
      forward = parts.0;
      source = link;
      marked = kept.marks at link marked;
      taken =
          subst (λ (b : List Bound). bars trie (own_at trie at b k) (label trie edge) ≡ false) (sym same)
          (subst (λ (b : List Bound). bars trie b (label trie edge) ≡ false) bounds_are gone.free);
      bounds = narrow_is ∙ ap (λ (b : List Bound). narrowed trie (own_at trie at b k) (label trie edge)) (sym same);
    }

    inside : (p : ℕ) (l : Link) → mark new p ≡ Some l → (p ≡ edge.child) ⊎ (p ≡ edge.child → ⊥) → l.first + l.count ≤ length grown
    inside p l there (inl e') =
        subst (λ (x : Link). x.first + x.count ≤ length grown)
        (one_link (mark new p) next l (subst (λ (q : ℕ). mark new q ≡ Some next) (sym e') is.here) there) is.inside
    inside p l there (inr apart) = omega (arith, walked.inside p l (sym (is.other p apart) ∙ there), is.longer)

    sound : (p : ℕ) (l : Link) → mark new p ≡ Some l → (p ≡ edge.child) ⊎ (p ≡ edge.child → ⊥) → (p ≡ 0) ⊎ IsLink trie new grown at (k + 1) p l
    sound p l there (inl e') =
        inr (subst (λ (x : Link). IsLink trie new grown at (k + 1) p x)
        (one_link (mark new p) next l (subst (λ (q : ℕ). mark new q ≡ Some next) (sym e') is.here) there)
        (subst (λ (q : ℕ). IsLink trie new grown at (k + 1) q next) (sym e') made))
    sound p l there (inr apart) =
        let before : mark links p ≡ Some l = sym (is.other p apart) ∙ there in
        link_kept trie links new pool grown at k at (k + 1) p l kept (λ from number early. early_more at k from number early) before (walked.sound p l before)

    covered : (p : ℕ) (l : Link) → mark new p ≡ Some l → trace traced p ≡ None → (p ≡ edge.child) ⊎ (p ≡ edge.child → ⊥) → p ≡ 0
    covered p l there none (inl e') =
        absurd (not_source (trace traced p) (record { from = at; number = k }) none
        (subst (λ (q : ℕ). trace traced q ≡ Some (record { from = at; number = k })) (sym e')
        (trace_here led traced edge.child (record { from = at; number = k }) (omega (arith, parts.1, walked.long, walked.long_led)) e)))
    covered p l there none (inr apart) =
        covered_more trie links led traced pool at k edge.child (record { from = at; number = k }) walked free e p l (sym (is.other p apart) ∙ there) none

pub traced_more : (trie : List ℕ) (links new : List (Option Link)) (led traced : List (Option Source)) (pool grown : List Bound) (at k : ℕ) (edge : Edge) (link : Link) → AreLinks trie links led pool at k → mark links at ≡ Some link → HasEdge trie at k edge → AreKept links new pool grown → traced ≡ set led edge.child (Some (record { from = at; number = k })) → (p : ℕ) (s : Source) → trace traced p ≡ Some s → IsTraced trie new at (k + 1) p s
traced_more trie links new led traced pool grown at k edge link walked marked has kept e p s there = by (cases_eq p edge.child)
  where
    source : Source
    source = record { from = at; number = k }

    within : p < length led
    within = omega (arith, source_within traced p s there, ap length e, length-set led edge.child (Some source))

    here : IsTraced trie new at (k + 1) edge.child source
    here = record { edge = edge; has = has; child = refl; early = inr (refl, omega arith); marked = record { link = link; is = kept.marks at link marked } }

    by : (p ≡ edge.child) ⊎ (p ≡ edge.child → ⊥) → IsTraced trie new at (k + 1) p s
    by (inl same) =
        let is : trace traced p ≡ Some source = subst (λ (q : ℕ). trace traced q ≡ Some source) (sym same) (trace_here led traced edge.child source (omega (arith, within, same)) e) in
        subst (λ (x : Source). IsTraced trie new at (k + 1) p x) (one_source (trace traced p) source s is there)
        (subst (λ (q : ℕ). IsTraced trie new at (k + 1) q source) (sym same) here)
    by (inr apart) =
        trace_kept trie links new pool grown at k at (k + 1) p s kept (λ from number early. early_more at k from number early)
        (walked.traced p s (sym (trace_other led traced edge.child source e p apart) ∙ there))

pub closed_more : (trie : List ℕ) (links new : List (Option Link)) (led traced : List (Option Source)) (pool grown : List Bound) (at k : ℕ) (edge : Edge) (link : Link) → AreLinks trie links led pool at k → mark links at ≡ Some link → HasEdge trie at k edge → trace led edge.child ≡ None → traced ≡ set led edge.child (Some (record { from = at; number = k })) → IsMoved trie links new led traced pool grown at k edge link → IsClosed trie links led pool at link k → IsClosed trie new traced grown at link (k + 1)
closed_more trie links new led traced pool grown at k edge link walked marked has free e moved closed = record {
  node = closed.node;
  there = closed.there;
  traces = λ number other has' low within. traces number other has' low within (cases_eq number k);
  takes = λ number other has' low open'. takes number other has' low open' (cases_eq number k);
}
  where
    source : Source
    source = record { from = at; number = k }

    before : IsClosed trie new traced grown at link k
    before = closed_kept trie links new led traced pool grown at link k moved.kept (trace_keeps led traced edge.child source free e) marked closed

    one : (number : ℕ) (other : Edge) → HasEdge trie at number other → number ≡ k → other ≡ edge
    one number other has' same = same_edge trie at k other edge (subst (λ (n : ℕ). HasEdge trie at n other) same has') has

    traces : (number : ℕ) (other : Edge) → HasEdge trie at number other → number < k + 1 → other.child < length trie → (number ≡ k) ⊎ (number ≡ k → ⊥) → trace traced other.child ≡ Some (record { from = at; number = number })
    traces number other has' low within (inl same) =
        let is : other ≡ edge = one number other has' same in
        let inside : edge.child < length led = subst (λ (x : Edge). x.child < length led) is (omega (arith, within, walked.long_led)) in
        subst (λ (x : Edge). trace traced x.child ≡ Some (record { from = at; number = number })) (sym is)
        (trace_here led traced edge.child source inside e ∙ ap (λ (n : ℕ). Some (record { from = at; number = n })) (sym same))
    traces number other has' low within (inr apart) = before.traces number other has' (omega (arith, low, apart)) within

    takes : (number : ℕ) (other : Edge) → HasEdge trie at number other → number < k + 1 → bars trie (own_at trie at (bounds_of grown link) number) (label trie other) ≡ false → (number ≡ k) ⊎ (number ≡ k → ⊥) → IsTaken trie new grown at link number other
    takes number other has' low open' (inl same) =
        let is : other ≡ edge = one number other has' same in
        let here : bars trie (own_at trie at (bounds_of pool link) k) (label trie edge) ≡ false =
        subst (λ (b : List Bound). bars trie (own_at trie at b k) (label trie edge) ≡ false) (moved.kept.bounds at link marked)
        (subst (λ (x : Edge). bars trie (own_at trie at (bounds_of grown link) k) (label trie x) ≡ false) is
        (subst (λ (n : ℕ). bars trie (own_at trie at (bounds_of grown link) n) (label trie other) ≡ false) same open')) in
        let is_taken : IsTaken trie new grown at link k edge = moved.taken here in
        subst (λ (x : Edge). IsTaken trie new grown at link number x) (sym is) (subst (λ (n : ℕ). IsTaken trie new grown at link n edge) (sym same) is_taken)
    takes number other has' low open' (inr apart) = before.takes number other has' (omega (arith, low, apart)) open'

pub own_more : (trie : List ℕ) (at : ℕ) (bounds : List Bound) (k : ℕ) (edge : Edge) → HasEdge trie at k edge → own_at trie at bounds k ++ bound_of edge ∷ [] ≡ own_at trie at bounds (k + 1)
own_more trie at bounds k edge has =
    let taken : take (k + 1) (edges_of trie at) ≡ take k (edges_of trie at) ++ edge ∷ [] =
    take_more (edges_of trie at) k edge has.within ∙ ap (λ (e : Edge). take k (edges_of trie at) ++ e ∷ []) has.is in
    append_assoc bounds (map bound_of (take k (edges_of trie at))) (bound_of edge ∷ [])
    ∙ ap (λ (bs : List Bound). bounds ++ bs) (sym (ap (map bound_of) taken ∙ map_push bound_of (take k (edges_of trie at)) edge))

pub entering_moved : (trie : List ℕ) (links new : List (Option Link)) (led traced : List (Option Source)) (pool grown bounds more : List Bound) (at k : ℕ) (edge : Edge) → (entering : IsEntering trie links led pool bounds at k) → HasEdge trie at k edge → trace led edge.child ≡ None → traced ≡ set led edge.child (Some (record { from = at; number = k })) → more ≡ bounds ++ bound_of edge ∷ [] → IsMoved trie links new led traced pool grown at k edge entering.link → IsEntering trie new traced grown more at (k + 1)
entering_moved trie links new led traced pool grown bounds more at k edge entering has free e more_is moved =
    let walked = entering.walked in
    let link : Link = entering.link in
    let source : Source = record { from = at; number = k } in
    let keep = trace_keeps led traced edge.child source free e in
    record {
      walked = record {
        long = moved.long ∙ walked.long;
        long_led = rw e (length-set led edge.child (Some source)) ∙ walked.long_led;
        start = walked.start;
        root = moved.kept.marks 0 walked.start walked.root;
        unbound = moved.kept.bounds 0 walked.start walked.root ∙ walked.unbound;
        inside = moved.inside;
        sound = moved.sound;
        covered = moved.covered;
        traced = traced_more trie links new led traced pool grown at k edge link walked entering.marked has moved.kept e;
        closed = λ p l low there.
            let before : mark links p ≡ Some l = moved.back p l (omega (arith, low)) there in
            closed_kept trie links new led traced pool grown p l (length (edges_of trie p)) moved.kept keep before (walked.closed p l low before);
      };
      link = link;
      marked = moved.kept.marks at link entering.marked;
      bounds_are =
          more_is ∙ (ap (λ (b : List Bound). b ++ bound_of edge ∷ []) entering.bounds_are
          ∙ (own_more trie at (bounds_of pool link) k edge has ∙ ap (λ (b : List Bound). own_at trie at b (k + 1)) (sym (moved.kept.bounds at link entering.marked))));
      closed = closed_more trie links new led traced pool grown at k edge link walked entering.marked has free e moved entering.closed;
    }

pub goes_by : (trie : List ℕ) (links new : List (Option Link)) (led traced : List (Option Source)) (pool grown bounds more : List Bound) (at k : ℕ) (edge : Edge) → (entering : IsEntering trie links led pool bounds at k) → HasEdge trie at k edge → trace led edge.child ≡ None → traced ≡ set led edge.child (Some (record { from = at; number = k })) → IsGone trie (record { from = at; number = k }) edge links new pool grown bounds ⊎ IsPassed trie edge links new pool grown bounds → IsMoved trie links new led traced pool grown at k edge entering.link
goes_by trie links new led traced pool grown bounds more at k edge entering has free e (inl gone) =
    moved_gone trie links new led traced pool grown bounds at k edge entering.link entering.walked entering.marked has free e entering.bounds_are gone
goes_by trie links new led traced pool grown bounds more at k edge entering has free e (inr passed) =
    moved_passed trie links new led traced pool grown bounds at k edge entering.link (record { from = at; number = k }) entering.walked free e entering.bounds_are passed

pub entering_goes_on : (trie : List ℕ) (links new : List (Option Link)) (led traced : List (Option Source)) (pool grown bounds more : List Bound) (at k : ℕ) (xs : List Edge) (d : Edge) → IsEntering trie links led pool bounds at k → edges_of trie at ≡ xs → k < length xs → Follows trie (record { from = at; number = k }) (get_or xs k d) links new led traced pool grown bounds more → IsEntering trie new traced grown more at (k + 1)
entering_goes_on trie links new led traced pool grown bounds more at k xs d entering e within follows =
    let edge : Edge = get_or xs k d in
    let has : HasEdge trie at k edge = has_edge trie at k xs d e within in
    entering_moved trie links new led traced pool grown bounds more at k edge entering has follows.free follows.led_is follows.bounds_are
    (goes_by trie links new led traced pool grown bounds more at k edge entering has follows.free follows.led_is follows.gone)

pub entering_starts : (trie : List ℕ) (links : List (Option Link)) (led : List (Option Source)) (pool bounds now : List Bound) (at : ℕ) (link : Link) (read : Option Node) (node : Node) → AreLinks trie links led pool at 0 → mark links at ≡ Some link → now ≡ pool → bounds ≡ bounds_of now link → read ≡ node_at trie at → read ≡ Some node → IsEntering trie links led pool bounds at 0
entering_starts trie links led pool bounds now at link read node walked marked same is there some = record {
  walked = walked;
  link = link;
  marked = marked;
  bounds_are = is ∙ (ap (λ (b : List Bound). bounds_of b link) same ∙ sym (append-nil (bounds_of pool link)));
  closed = record {
    node = node;
    there = sym there ∙ some;
    traces = λ number edge has low within. absurd (omega (arith, low));
    takes = λ number edge has low open'. absurd (omega (arith, low));
  };
}

pub entering_ends : (trie : List ℕ) (links : List (Option Link)) (led : List (Option Source)) (pool bounds : List Bound) (at k : ℕ) (xs : List Edge) → IsEntering trie links led pool bounds at k → edges_of trie at ≡ xs → length xs ≤ k → AreLinks trie links led pool (at + 1) 0
entering_ends trie links led pool bounds at k xs entering e past = record {
  long = entering.walked.long;
  long_led = entering.walked.long_led;
  start = entering.walked.start;
  root = entering.walked.root;
  unbound = entering.walked.unbound;
  inside = entering.walked.inside;
  sound = λ p l marked. link_kept trie links links pool pool at k (at + 1) 0 p l same (λ from number early. early_ends at k from number early) marked (entering.walked.sound p l marked);
  covered = entering.walked.covered;
  traced = λ p s there. trace_kept trie links links pool pool at k (at + 1) 0 p s same (λ from number early. early_ends at k from number early) (entering.walked.traced p s there);
  closed = λ p l low marked. closed p l low marked (cases_eq p at);
}
  where
    same : AreKept links links pool pool
    same = record { marks = λ p l marked. marked; bounds = λ p l marked. refl }

    few : length (edges_of trie at) ≤ k
    few = rw e past

    here : IsClosed trie links led pool at entering.link (length (edges_of trie at))
    here = record {
      node = entering.closed.node;
      there = entering.closed.there;
      traces = λ number edge has low within. entering.closed.traces number edge has (omega (arith, low, few)) within;
      takes = λ number edge has low open'. entering.closed.takes number edge has (omega (arith, low, few)) open';
    }

    closed : (p : ℕ) (l : Link) → p < at + 1 → mark links p ≡ Some l → (p ≡ at) ⊎ (p ≡ at → ⊥) → IsClosed trie links led pool p l (length (edges_of trie p))
    closed p l low marked (inl e') =
        subst (λ (q : ℕ). IsClosed trie links led pool q l (length (edges_of trie q))) (sym e')
        (subst (λ (x : Link). IsClosed trie links led pool at x (length (edges_of trie at)))
        (one_link (mark links at) entering.link l entering.marked (subst (λ (q : ℕ). mark links q ≡ Some l) e' marked)) here)
    closed p l low marked (inr apart) = entering.walked.closed p l (omega (arith, low, apart)) marked
