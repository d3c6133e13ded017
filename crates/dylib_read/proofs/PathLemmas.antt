-- The walks through a trie whose marks are made: what they come to, that a name ends at one place, and that no fault is left.
use Rattle.std.proofs.Common.{◌≡◌, ℕ, suc, ◌<◌, ◌⊎◌, inl, inr, Bool, true, false, not, ◌||◌, List, [], ◌∷◌, ◌++◌, length, take, map, get_or, Option, Some, None, refl, sym, ap, subst, ◌∙◌, arith, append_assoc, append-nil, eqb}
use Rattle.std.specs.Option.{is_some}
use Rattle.std.proofs.lemmas.Bool.{cases_order, false≢true, ne_eqb, or_from, true≢false}
use Rattle.std.proofs.lemmas.List.{append_cancel_left, get_or_default}
use Rattle.export_trie.proofs.Strings.{begins_append}
use Rattle.export_trie.specs.Strings.{begins}
use Rattle.dylib_read.specs.declared.trie_node.Edge.{Edge}
use Rattle.dylib_read.specs.declared.trie_node.Node.{Node}
use Rattle.dylib_read.specs.declared.trie_walk.Bound.{Bound}
use Rattle.dylib_read.specs.declared.trie_walk.Link.{Link}
use Rattle.dylib_read.specs.declared.trie_walk.Source.{Source}
use Rattle.dylib_read.specs.TrieNodes.{label, node_at}
use Rattle.dylib_read.specs.Trie.{HasEdge, IsBroken, Takes, Walk, edges_of, root, along, leaves, returns, meets}
use Rattle.dylib_read.specs.inner.TrieLinks.{AreLinks, IsClosed, IsComplete, IsNamed, IsTaken, IsWay, bars, bound_of, bounds_of, is_end, mark, narrowed, own_at, spelled, trace}
use Rattle.dylib_read.proofs.BoundLemmas.{bars_append, bars_labels, bars_longer, bars_over, nothing_passes}
use Rattle.dylib_read.proofs.OwnLemmas.{marked_within, one_link, same_edge, way_owns, way_plain}
use Rattle.dylib_read.proofs.EdgeLemmas.{one_source}

-- ---- where walks come to

-- a walk comes to a marked place, with a rest that isn't barred there
pub record IsReached (trie : List ℕ) (links : List (Option Link)) (pool : List Bound) (name : List ℕ) (at : ℕ) (rest : List ℕ) : Type 0 where
  pub link : Link
  pub marked : mark links at ≡ Some link
  pub free : bars trie (bounds_of pool link) rest ≡ false
  pub ended : rest ≡ [] → is_end trie at link ≡ true
  pub way : List Edge
  pub back : IsWay links at way
  pub spells : name ≡ spelled trie way ++ rest

end_at_root : (trie : List ℕ) (at : ℕ) (link : Link) → at ≡ 0 → is_end trie at link ≡ true
unfolding is_end
end_at_root trie at link e = rw e refl

end_behind : (trie : List ℕ) (at : ℕ) (link : Link) → (label trie link.edge ≡ [] → ⊥) → is_end trie at link ≡ true
unfolding is_end
end_behind trie at link some = either (eqb at 0) (longer (label trie link.edge) some)
  where
    longer : (l : List ℕ) → (l ≡ [] → ⊥) → not (eqb (length l) 0) ≡ true
    longer [] h = absurd (h refl)
    longer (x ∷ l) h = rw (ne_eqb (suc (length l)) 0 (λ e. omega (arith, e))) refl

    either : (b : Bool) → not (eqb (length (label trie link.edge)) 0) ≡ true → (b || not (eqb (length (label trie link.edge)) 0)) ≡ true
    either true h = refl
    either false h = h

-- the edge that a walk takes from a marked place is taken there
record IsStep (trie : List ℕ) (links : List (Option Link)) (pool : List Bound) (from : ℕ) (link : Link) (number : ℕ) (edge : Edge) (rest : List ℕ) : Type 0 where
  taken : IsTaken trie links pool from link number edge
  free : bars trie (narrowed trie (own_at trie from (bounds_of pool link) number) (label trie edge)) rest ≡ false

step_taken : (trie : List ℕ) (links : List (Option Link)) (led : List (Option Source)) (pool : List Bound) (from : ℕ) (link : Link) (whole : List ℕ) (number : ℕ) (edge : Edge) (rest : List ℕ) → AreLinks trie links led pool (length trie) 0 → mark links from ≡ Some link → bars trie (bounds_of pool link) whole ≡ false → Takes trie from whole number edge rest → IsStep trie links pool from link number edge rest
step_taken trie links led pool from link whole number edge rest walked marked free takes = record {
  taken = closed.takes number edge takes.has takes.has.within own_label;
  free = sym (bars_over trie own (label trie edge) rest own_label) ∙ own_whole;
}
  where
    own : List Bound
    own = own_at trie from (bounds_of pool link) number

    closed : IsClosed trie links led pool from link (length (edges_of trie from))
    closed = walked.closed from link (omega (arith, walked.long, marked_within links from link marked)) marked

    labels : bars trie (map bound_of (take number (edges_of trie from))) whole ≡ false
    labels =
        bars_labels trie (edges_of trie from) number whole
        (λ j d low within. takes.first j (get_or (edges_of trie from) j d) low
        (record { within = within; is = get_or_default (edges_of trie from) j (get_or (edges_of trie from) j d) d within }))

    own_is : bars trie own whole ≡ false
    own_is =
        bars_append trie (bounds_of pool link) (map bound_of (take number (edges_of trie from))) whole
        ∙ or_from (bars trie (bounds_of pool link) whole) (bars trie (map bound_of (take number (edges_of trie from))) whole) free labels

    own_whole : bars trie own (label trie edge ++ rest) ≡ false
    own_whole = subst (λ (w : List ℕ). bars trie own w ≡ false) takes.spells own_is

    own_label : bars trie own (label trie edge) ≡ false
    own_label = bars_longer trie own (label trie edge) rest own_whole

reach_root : (trie : List ℕ) (links : List (Option Link)) (led : List (Option Source)) (pool : List Bound) (name : List ℕ) (at : ℕ) (rest : List ℕ) → AreLinks trie links led pool (length trie) 0 → at ≡ 0 → rest ≡ name → IsReached trie links pool name at rest
reach_root trie links led pool name at rest walked e f = record {
  link = walked.start;
  marked = subst (λ (q : ℕ). mark links q ≡ Some walked.start) (sym e) walked.root;
  free = ap (λ (b : List Bound). bars trie b rest) walked.unbound;
  ended = λ none. end_at_root trie at walked.start e;
  way = [];
  back = e;
  spells = sym f;
}

reach_on : (trie : List ℕ) (links : List (Option Link)) (led : List (Option Source)) (pool : List Bound) (name : List ℕ) (at : ℕ) (rest : List ℕ) (from : ℕ) (whole : List ℕ) (number : ℕ) (edge : Edge) → AreLinks trie links led pool (length trie) 0 → IsReached trie links pool name from whole → Takes trie from whole number edge rest → at ≡ edge.child → IsReached trie links pool name at rest
reach_on trie links led pool name at rest from whole number edge walked before takes child = record {
  link = next;
  marked = marked;
  free = ap (λ (b : List Bound). bars trie b rest) step.taken.bounds ∙ step.free;
  ended = λ none. end_behind trie at next (λ empty. takes.some (takes.spells ∙ (ap (λ (l : List ℕ). l ++ rest) (ap (label trie) (sym step.taken.edge_is) ∙ empty) ∙ none)));
  way = next.edge ∷ before.way;
  back = (next, marked, (λ e. omega (arith, e, child, step.taken.forward)), refl, subst (λ (n : ℕ). IsWay links n before.way) (sym step.taken.from) before.back);
  spells =
      before.spells ∙ (ap (λ (w : List ℕ). spelled trie before.way ++ w) takes.spells
      ∙ (sym (append_assoc (spelled trie before.way) (label trie edge) rest)
      ∙ ap (λ (e : Edge). (spelled trie before.way ++ label trie e) ++ rest) (sym step.taken.edge_is)));
}
  where
    step : IsStep trie links pool from before.link number edge rest
    step = step_taken trie links led pool from before.link whole number edge rest walked before.marked before.free takes

    next : Link
    next = step.taken.next

    marked : mark links at ≡ Some next
    marked = subst (λ (q : ℕ). mark links q ≡ Some next) (sym child) step.taken.marked

pub reached : (trie : List ℕ) (links : List (Option Link)) (led : List (Option Source)) (pool : List Bound) (name : List ℕ) (at : ℕ) (rest : List ℕ) → AreLinks trie links led pool (length trie) 0 → Walk trie name at rest → IsReached trie links pool name at rest
reached trie links led pool name at rest walked (root e f) = reach_root trie links led pool name at rest walked e f
reached trie links led pool name at rest walked (along from whole number edge walk takes child) =
    reach_on trie links led pool name at rest from whole number edge walked (reached trie links led pool name from whole walked walk) takes child

-- ---- a name ends at one place

-- walks from a place end at another
data Down (trie : List ℕ) (to : ℕ) : ℕ → List ℕ → Type 0 where
  stops : {from : ℕ} {rest : List ℕ} → from ≡ to → rest ≡ [] → Down trie to from rest
  steps : {from : ℕ} {rest : List ℕ} → (number : ℕ) → (edge : Edge) → (below : List ℕ) → Takes trie from rest number edge below → Down trie to edge.child below → Down trie to from rest

down_all : (trie : List ℕ) (to : ℕ) (name : List ℕ) (at : ℕ) (rest : List ℕ) → Walk trie name at rest → Down trie to at rest → Down trie to 0 name
down_all trie to name at rest (root e f) down = subst (Down trie to 0) f (subst (λ (n : ℕ). Down trie to n rest) e down)
down_all trie to name at rest (along from whole number edge walk takes child) down =
    down_all trie to name from whole walk (steps number edge rest takes (subst (λ (n : ℕ). Down trie to n rest) child down))

never_first : (trie : List ℕ) (at : ℕ) (rest : List ℕ) (k l : ℕ) (edge other : Edge) (x y : List ℕ) → Takes trie at rest k edge x → Takes trie at rest l other y → k < l → ⊥
never_first trie at rest k l edge other x y takes later less =
    true≢false (sym (subst (λ (w : List ℕ). begins (label trie edge) w ≡ true) (sym takes.spells) (begins_append (label trie edge) x)) ∙ later.first k edge less takes.has)

one_number : (trie : List ℕ) (at : ℕ) (rest : List ℕ) (k l : ℕ) (edge other : Edge) (x y : List ℕ) → Takes trie at rest k edge x → Takes trie at rest l other y → k ≡ l
one_number trie at rest k l edge other x y takes too = by (cases_order k l)
  where
    by : (k ≡ l) ⊎ ((k < l) ⊎ (l < k)) → k ≡ l
    by (inl same) = same
    by (inr (inl less)) = absurd (never_first trie at rest k l edge other x y takes too less)
    by (inr (inr more)) = absurd (never_first trie at rest l k other edge y x too takes more)

one_end : (trie : List ℕ) (a b from : ℕ) (rest : List ℕ) → Down trie a from rest → Down trie b from rest → a ≡ b
one_end trie a b from rest (stops e none) (stops f none') = sym e ∙ f
one_end trie a b from rest (stops e none) (steps k edge below takes on) = absurd (takes.some none)
one_end trie a b from rest (steps k edge below takes on) (stops e none) = absurd (takes.some none)
one_end trie a b from rest (steps k edge below takes on) (steps l other lower takes' on') =
    let number : k ≡ l = one_number trie from rest k l edge other below lower takes takes' in
    let same : edge ≡ other = same_edge trie from l edge other (subst (λ (n : ℕ). HasEdge trie from n edge) number takes.has) takes'.has in
    let left : below ≡ lower = append_cancel_left (label trie other) below lower (ap (λ (e : Edge). label trie e ++ below) (sym same) ∙ (sym takes.spells ∙ takes'.spells)) in
    one_end trie a b edge.child below on
    (subst (Down trie b edge.child) (sym left) (subst (λ (e : Edge). Down trie b e.child lower) (sym same) on'))

pub one_place : (trie : List ℕ) (a b : ℕ) (name : List ℕ) → Walk trie name a [] → Walk trie name b [] → a ≡ b
one_place trie a b name p q = one_end trie a b 0 name (down_all trie a name a [] p (stops refl refl)) (down_all trie b name b [] q (stops refl refl))

-- ---- a place has one name

one_way : (links : List (Option Link)) (at : ℕ) (a b : List Edge) → IsWay links at a → IsWay links at b → a ≡ b
one_way links at [] [] p q = refl
one_way links at [] (f ∷ b) p q = absurd (q.2 p)
one_way links at (e ∷ a) [] p q = absurd (p.2 q)
one_way links at (e ∷ a) (f ∷ b) p q =
    let same : p.0 ≡ q.0 = one_link (mark links at) p.0 q.0 p.1 q.1 in
    let edge : e ≡ f = p.3 ∙ (ap (λ (l : Link). l.edge) same ∙ sym q.3) in
    let rest : a ≡ b = one_way links p.0.from a b p.4 (subst (λ (l : Link). IsWay links l.from b) (sym same) q.4) in
    ap (λ (x : Edge). x ∷ a) edge ∙ ap (λ (xs : List Edge). f ∷ xs) rest

-- the walk of a name that ends at a marked place is that of the place's name
pub one_name : (trie : List ℕ) (links : List (Option Link)) (at : ℕ) (name other : List ℕ) → IsComplete trie links → IsNamed trie links at name → Walk trie other at [] → other ≡ name
one_name trie links at name other complete named walk =
    let is = reached trie links complete.led complete.pool other at [] complete.walked walk in
    is.spells ∙ (append-nil (spelled trie is.way) ∙ (ap (spelled trie) (one_way links at is.way named.way is.back named.back) ∙ sym named.spells))

pub name_walk : (trie : List ℕ) (links : List (Option Link)) (at : ℕ) (name : List ℕ) (link : Link) → IsComplete trie links → IsNamed trie links at name → mark links at ≡ Some link → is_end trie at link ≡ true → Walk trie name at []
name_walk trie links at name link complete named marked ends =
    let owns = way_owns trie links complete.led complete.pool (length trie) 0 complete.walked at link named.way marked named.back in
    let plain = way_plain trie links complete.led complete.pool (length trie) 0 complete.walked at link named.way marked named.back in
    subst (λ (n : List ℕ). Walk trie n at []) (append-nil (spelled trie named.way) ∙ sym named.spells)
    (owns.on [] (nothing_passes trie (bounds_of complete.pool link) plain) (λ e. ends))

-- a name that ends at a place ends a walk
pub name_ends : (trie : List ℕ) (links : List (Option Link)) (at : ℕ) (name : List ℕ) (link : Link) → IsComplete trie links → Walk trie name at [] → mark links at ≡ Some link → is_end trie at link ≡ true
name_ends trie links at name link complete walk marked =
    let is = reached trie links complete.led complete.pool name at [] complete.walked walk in
    subst (λ (l : Link). is_end trie at l ≡ true) (one_link (mark links at) is.link link is.marked marked) (is.ended refl)

-- ---- no fault

closed_at : (trie : List ℕ) (links : List (Option Link)) (led : List (Option Source)) (pool : List Bound) (at : ℕ) (link : Link) → AreLinks trie links led pool (length trie) 0 → mark links at ≡ Some link → IsClosed trie links led pool at link (length (edges_of trie at))
closed_at trie links led pool at link walked marked = walked.closed at link (omega (arith, walked.long, marked_within links at link marked)) marked

no_node : (x : Option Node) (node : Node) → x ≡ Some node → x ≡ None → ⊥
no_node x node some none = false≢true (ap is_some (sym none ∙ some))

pub not_broken : (trie : List ℕ) (links : List (Option Link)) → IsComplete trie links → IsBroken trie → ⊥
not_broken trie links complete (leaves at walked none) =
    let is = reached trie links complete.led complete.pool walked.name at walked.rest complete.walked walked.walk in
    let closed = closed_at trie links complete.led complete.pool at is.link complete.walked is.marked in
    no_node (node_at trie at) closed.node closed.there none
not_broken trie links complete (returns goes) =
    let is = reached trie links complete.led complete.pool goes.name goes.at goes.rest complete.walked goes.walk in
    let step = step_taken trie links complete.led complete.pool goes.at is.link goes.rest goes.number goes.edge goes.below complete.walked is.marked is.free goes.takes in
    omega (arith, step.taken.forward, goes.back)
not_broken trie links complete (meets two) =
    let first = reached trie links complete.led complete.pool two.walked.name two.from two.walked.rest complete.walked two.walked.walk in
    let second = reached trie links complete.led complete.pool two.walked_too.name two.other two.walked_too.rest complete.walked two.walked_too.walk in
    let closed = closed_at trie links complete.led complete.pool two.from first.link complete.walked first.marked in
    let closed_too = closed_at trie links complete.led complete.pool two.other second.link complete.walked second.marked in
    let one = closed.traces two.number two.edge two.has two.has.within two.within in
    let too = closed_too.traces two.further two.second two.has_too two.has_too.within (subst (λ (n : ℕ). n < length trie) two.meet two.within) in
    let same = one_source (trace complete.led two.edge.child) (record { from = two.from; number = two.number }) (record { from = two.other; number = two.further })
    one (subst (λ (n : ℕ). trace complete.led n ≡ Some (record { from = two.other; number = two.further })) (sym two.meet) too) in
    two.apart (ap (λ (s : Source). s.from) same) (ap (λ (s : Source). s.number) same)
