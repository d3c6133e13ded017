-- The walks through a trie: from the marks before a node to those behind it.
use Rattle.std.proofs.Common.{◌≡◌, ℕ, zero, suc, ◌+◌, ◌-◌, ◌<◌, ◌≤◌, ◌⊎◌, inl, inr, true, false, List, [], ◌∷◌, ◌++◌, length, take, drop, min, set, get_or, replicate, Option, Some, None, refl, sym, ap, subst, ◌∙◌, arith, append_assoc, append-nil, nat_eq, nat_lt, unwrap_or}
use Rattle.std.specs.List.{starts_with}
use Rattle.std.specs.Option.{option_map_or, is_some}
use Rattle.std.proofs.lemmas.Bool.{and_from, cases_eq, cases_lt, false≢true, lt-ltb}
use Rattle.std.proofs.lemmas.List.{take_min, take_rest, drop_all, drop_more, get_or-set_same, get_or-set_other, length-replicate, length-set}
use Rattle.mo_bytes.specs.Uleb.{uleb_at, short_uleb, uleb_front}
use Rattle.export_trie.proofs.Walks.{begins_is}
use Rattle.export_trie.specs.Strings.{begins}
use Rattle.dylib_read.specs.declared.trie_node.Edge.{Edge}
use Rattle.dylib_read.specs.declared.trie_node.Node.{Node}
use Rattle.dylib_read.specs.declared.trie_walk.Bound.{Bound}
use Rattle.dylib_read.specs.declared.trie_walk.Link.{Link}
use Rattle.dylib_read.specs.declared.trie_walk.Source.{Source}
use Rattle.dylib_read.specs.TrieNodes.{label, node_at}
use Rattle.dylib_read.specs.Trie.{HasEdge, IsBroken, edges_of, along, leaves, returns, meets}
use Rattle.dylib_read.specs.inner.TrieLinks.{AreLinks, IsClosed, IsComplete, IsEarly, IsMarked, IsTraced, Stops, bars, bounds_of, is_ahead, is_end, mark, narrow, narrowed, own_at, spelled, text, trace}
use Rattle.dylib_read.proofs.BoundLemmas.{narrowed_plain, nul_passes}
use Rattle.dylib_read.proofs.OwnLemmas.{GoesOn, empty_parts, goes_on, has_edge, marked_within, one_link, own_bytes, owned, some_apart, walked_at}
use Rattle.dylib_read.proofs.WalkLemmas.{take_nothing}
use Rattle.dylib_read.proofs.EdgeLemmas.{AreKept, IsEntering, early_ends, link_kept, not_both, not_source, source_within, trace_kept}

-- ---- parts of the trie

pub part_cut : (trie : List ℕ) (at size count : ℕ) → count ≡ min size (length (take (length trie - at) (drop at trie))) → take count (take (length trie - at) (drop at trie)) ≡ take size (drop at trie)
part_cut trie at size count few =
    let rest : take (length trie - at) (drop at trie) ≡ drop at trie = take_rest trie at in
    ap (λ n. take n (take (length trie - at) (drop at trie))) few
    ∙ (take_min size (take (length trie - at) (drop at trie)) ∙ ap (take size) rest)

pub part_past : (trie : List ℕ) (at size : ℕ) → length trie < at → [] ≡ take size (drop at trie)
part_past trie at size past =
    let e : drop at trie ≡ [] = drop_all at trie (omega arith) in
    rw e (take_nothing size)

pub ruleset parts = (part_cut, part_past)

pub begun : (front text : List ℕ) → starts_with nat_eq text front ≡ begins front text
begun front text = begins_is front text

pub ruleset beginnings = (begun)

pub link_there : (links : List (Option Link)) (at : ℕ) (link d : Link) → IsMarked links at → link ≡ unwrap_or (mark links at) d → mark links at ≡ Some link
link_there links at link d marked e = marked.is ∙ ap Some (sym (e ∙ rw marked.is refl))

pub is_within : (links : List (Option Link)) (at : ℕ) → IsMarked links at → at < length links
is_within links at marked = marked_within links at marked.link marked.is

pub ruleset links = (link_there, is_within)

-- ---- bounds that are narrowed

pub narrowed_more : (trie : List ℕ) (bounds : List Bound) (i : ℕ) (l : List ℕ) (pool : List Bound) (bound left : Bound) (whole : List Bound) → pool ++ narrowed trie (drop i bounds) l ≡ whole → i < length bounds → bound ≡ get_or bounds i bound → Some left ≡ narrow trie bound l → (pool ++ left ∷ []) ++ narrowed trie (drop (i + 1) bounds) l ≡ whole
narrowed_more trie bounds i l pool bound left whole same within is some =
    let here : narrowed trie (drop i bounds) l ≡ left ∷ narrowed trie (drop (i + 1) bounds) l =
    ap (λ (bs : List Bound). narrowed trie bs l) (drop_more bounds i bound within ∙ ap (λ (b : Bound). b ∷ drop (i + 1) bounds) (sym is))
    ∙ ap (λ (o : Option Bound). option_map_or (λ (b : Bound). b ∷ narrowed trie (drop (i + 1) bounds) l) o (narrowed trie (drop (i + 1) bounds) l)) (sym some) in
    append_assoc pool (left ∷ []) (narrowed trie (drop (i + 1) bounds) l) ∙ (ap (λ (bs : List Bound). pool ++ bs) (sym here) ∙ same)

pub narrowed_same : (trie : List ℕ) (bounds : List Bound) (i : ℕ) (l : List ℕ) (pool : List Bound) (bound : Bound) (whole : List Bound) → pool ++ narrowed trie (drop i bounds) l ≡ whole → i < length bounds → bound ≡ get_or bounds i bound → None ≡ narrow trie bound l → pool ++ narrowed trie (drop (i + 1) bounds) l ≡ whole
narrowed_same trie bounds i l pool bound whole same within is none =
    let here : narrowed trie (drop i bounds) l ≡ narrowed trie (drop (i + 1) bounds) l =
    ap (λ (bs : List Bound). narrowed trie bs l) (drop_more bounds i bound within ∙ ap (λ (b : Bound). b ∷ drop (i + 1) bounds) (sym is))
    ∙ ap (λ (o : Option Bound). option_map_or (λ (b : Bound). b ∷ narrowed trie (drop (i + 1) bounds) l) o (narrowed trie (drop (i + 1) bounds) l)) (sym none) in
    ap (λ (bs : List Bound). pool ++ bs) (sym here) ∙ same

pub narrowed_all : (trie : List ℕ) (bounds : List Bound) (i : ℕ) (l : List ℕ) (pool whole : List Bound) → pool ++ narrowed trie (drop i bounds) l ≡ whole → length bounds ≤ i → pool ≡ whole
narrowed_all trie bounds i l pool whole same past =
    sym (append-nil pool) ∙ (ap (λ (bs : List Bound). pool ++ narrowed trie bs l) (sym (drop_all i bounds past)) ∙ same)

pub ruleset narrowings = (narrowed_more, narrowed_same, narrowed_all)

-- ---- faults

-- no node stands behind the end
pub node_past : (trie : List ℕ) (at : ℕ) → length trie ≤ at → node_at trie at ≡ None
unfolding node_at uleb_at short_uleb uleb_front
node_past trie at past = rw (drop_all at trie past) refl

pub not_a_node : (trie : List ℕ) (links : List (Option Link)) (led : List (Option Source)) (pool : List Bound) (n k at : ℕ) (link : Link) (read : Option Node) → AreLinks trie links led pool n k → mark links at ≡ Some link → read ≡ node_at trie at → read ≡ None → IsBroken trie
not_a_node trie links led pool n k at link read walked marked there none = leaves at (walked_at trie links led pool n k at link walked marked) (sym there ∙ none)

met_before : (at from k number : ℕ) → from ≡ at → number ≡ k → IsEarly at k from number → ⊥
met_before at from k number e f (inl low) = omega (arith, low, e)
met_before at from k number e f (inr both) = omega (arith, both.1, f)

edge_met : (trie : List ℕ) (links : List (Option Link)) (led : List (Option Source)) (pool bounds : List Bound) (at k : ℕ) (edge : Edge) (s : Option Source) → IsEntering trie links led pool bounds at k → HasEdge trie at k edge → trace led edge.child ≡ s → is_some s ≡ true → IsBroken trie
edge_met trie links led pool bounds at k edge None entering has there some = absurd (false≢true some)
edge_met trie links led pool bounds at k edge (Some source) entering has there some =
    let walked = entering.walked in
    let is : IsTraced trie links at k edge.child source = walked.traced edge.child source there in
    let low : edge.child < length led = source_within led edge.child source there in
    meets (record {
      from = source.from;
      other = at;
      number = source.number;
      further = k;
      edge = is.edge;
      second = edge;
      walked = walked_at trie links led pool at k source.from is.marked.link walked is.marked.is;
      walked_too = walked_at trie links led pool at k at entering.link walked entering.marked;
      has = is.has;
      has_too = has;
      apart = λ same number. met_before at source.from k source.number same number is.early;
      within = omega (arith, low, walked.long_led, is.child);
      meet = sym is.child;
    })

-- a walk goes along the edge, and a NUL is left
edge_goes : (trie : List ℕ) (links : List (Option Link)) (led : List (Option Source)) (pool bounds : List Bound) (at k : ℕ) (edge : Edge) → (entering : IsEntering trie links led pool bounds at k) → HasEdge trie at k edge → bars trie bounds (label trie edge) ≡ false → GoesOn trie at k edge (spelled trie (owned trie links led pool at k at entering.link entering.walked entering.marked).way) (0 ∷ [])
edge_goes trie links led pool bounds at k edge entering has free =
    let own = owned trie links led pool at k at entering.link entering.walked entering.marked in
    let open' : bars trie (own_at trie at (bounds_of pool entering.link) k) (label trie edge) ≡ false = subst (λ (b : List Bound). bars trie b (label trie edge) ≡ false) entering.bounds_are free in
    goes_on trie (bounds_of pool entering.link) (is_end trie at entering.link) at k edge (spelled trie own.way) (0 ∷ []) own.owns has open'
    (nul_passes trie (narrowed trie (own_at trie at (bounds_of pool entering.link) k) (label trie edge))
    (narrowed_plain trie (own_at trie at (bounds_of pool entering.link) k) (label trie edge) (own_bytes trie at (bounds_of pool entering.link) k own.plain) open'))
    (λ e. some_apart 0 [] (empty_parts (label trie edge) (0 ∷ []) e).1)

not_ahead : (links : List (Option Link)) (from : ℕ) (edge : Edge) → is_ahead links from edge ≡ false → from < edge.child → edge.child < length links → ⊥
unfolding is_ahead
not_ahead links from edge no_way low high =
    false≢true (sym no_way ∙ and_from (nat_lt from edge.child) (nat_lt edge.child (length links)) (lt-ltb from edge.child low) (lt-ltb edge.child (length links) high))

edge_lost : (trie : List ℕ) (links : List (Option Link)) (led : List (Option Source)) (pool bounds : List Bound) (at k : ℕ) (edge : Edge) → IsEntering trie links led pool bounds at k → HasEdge trie at k edge → bars trie bounds (label trie edge) ≡ false → is_ahead links at edge ≡ false → (at < edge.child) ⊎ (edge.child ≤ at) → (edge.child < length links) ⊎ (length links ≤ edge.child) → IsBroken trie
edge_lost trie links led pool bounds at k edge entering has free behind (inr back) within =
    let own = owned trie links led pool at k at entering.link entering.walked entering.marked in
    let step = edge_goes trie links led pool bounds at k edge entering has free in
    returns (record {
      at = at;
      name = spelled trie own.way ++ (label trie edge ++ 0 ∷ []);
      rest = label trie edge ++ 0 ∷ [];
      number = k;
      edge = edge;
      below = 0 ∷ [];
      walk = step.walk;
      takes = step.takes;
      back = back;
    })
edge_lost trie links led pool bounds at k edge entering has free behind (inl low) (inr past) =
    let own = owned trie links led pool at k at entering.link entering.walked entering.marked in
    let step = edge_goes trie links led pool bounds at k edge entering has free in
    leaves edge.child
    (record { name = spelled trie own.way ++ (label trie edge ++ 0 ∷ []); rest = 0 ∷ []; walk = along at (label trie edge ++ 0 ∷ []) k edge step.walk step.takes refl })
    (node_past trie edge.child (omega (arith, past, entering.walked.long)))
edge_lost trie links led pool bounds at k edge entering has free behind (inl low) (inl high) = absurd (not_ahead links at edge behind low high)

pub entering_stops : (trie : List ℕ) (links : List (Option Link)) (led : List (Option Source)) (pool bounds : List Bound) (at k : ℕ) (xs : List Edge) (d : Edge) → IsEntering trie links led pool bounds at k → edges_of trie at ≡ xs → k < length xs → Stops trie (record { from = at; number = k }) (get_or xs k d) links led bounds → IsBroken trie
entering_stops trie links led pool bounds at k xs d entering e within (inl met) =
    edge_met trie links led pool bounds at k (get_or xs k d) (trace led (get_or xs k d).child) entering (has_edge trie at k xs d e within) refl met
entering_stops trie links led pool bounds at k xs d entering e within (inr lost) =
    edge_lost trie links led pool bounds at k (get_or xs k d) entering (has_edge trie at k xs d e within) lost.0 lost.1 (cases_lt at (get_or xs k d).child) (cases_lt (get_or xs k d).child (length links))

-- ---- the walk

none_there : {X : Type 0} (n at : ℕ) → get_or (replicate {A = Option X} n None) at None ≡ None
none_there zero at = refl
none_there (suc n) zero = refl
none_there (suc n) (suc at) = none_there n at

unbound_start : (pool : List Bound) (link : Link) → link.count ≡ 0 → bounds_of pool link ≡ []
unfolding bounds_of
unbound_start pool link none = rw none refl

pub walk_starts : (trie : List ℕ) (links : List (Option Link)) (led : List (Option Source)) (pool : List Bound) (link : Link) → 0 < length trie → link.first ≡ 0 → link.count ≡ 0 → links ≡ set (replicate (length trie) None) 0 (Some link) → led ≡ replicate (length trie) None → pool ≡ [] → AreLinks trie links led pool 0 0
walk_starts trie links led pool link some first count e f g = record {
  long = rw e (length-set (replicate (length trie) None) 0 (Some link) ∙ length-replicate (length trie) None);
  long_led = rw f (length-replicate (length trie) None);
  start = link;
  root = here;
  unbound = unbound_start pool link count;
  inside = λ at l there. inside at l there (only at l there (cases_eq at 0));
  sound = λ at l there. inl (only at l there (cases_eq at 0));
  covered = λ at l there none. only at l there (cases_eq at 0);
  traced = λ at s there. absurd (not_source (trace led at) s (ap (λ (xs : List (Option Source)). get_or xs at None) f ∙ none_there (length trie) at) there);
  closed = λ at l low. absurd (omega (arith, low));
}
  where
    here : mark links 0 ≡ Some link
    here = rw e (get_or-set_same (replicate (length trie) None) 0 (Some link) None (rw (length-replicate {A = Option Link} (length trie) None) some))

    only : (at : ℕ) (l : Link) → mark links at ≡ Some l → (at ≡ 0) ⊎ (at ≡ 0 → ⊥) → at ≡ 0
    only at l there (inl same) = same
    only at l there (inr apart) =
        absurd (not_both (mark links at) l (rw e (get_or-set_other (replicate (length trie) None) 0 at (Some link) None apart ∙ none_there (length trie) at)) there)

    inside : (at : ℕ) (l : Link) → mark links at ≡ Some l → at ≡ 0 → l.first + l.count ≤ length pool
    inside at l there same =
        let is : link ≡ l = one_link (mark links 0) link l here (subst (λ (q : ℕ). mark links q ≡ Some l) same there) in
        omega (arith, ap (λ (x : Link). x.first) is, ap (λ (x : Link). x.count) is, first, count)

pub walk_passes : (trie : List ℕ) (links : List (Option Link)) (led : List (Option Source)) (pool : List Bound) (n : ℕ) → AreLinks trie links led pool n 0 → is_some (mark links n) ≡ false → AreLinks trie links led pool (n + 1) 0
walk_passes trie links led pool n walked none = record {
  long = walked.long;
  long_led = walked.long_led;
  start = walked.start;
  root = walked.root;
  unbound = walked.unbound;
  inside = walked.inside;
  sound = λ p l marked. link_kept trie links links pool pool n 0 (n + 1) 0 p l same (λ from number early. early_ends n 0 from number early) marked (walked.sound p l marked);
  covered = walked.covered;
  traced = λ p s there. trace_kept trie links links pool pool n 0 (n + 1) 0 p s same (λ from number early. early_ends n 0 from number early) (walked.traced p s there);
  closed = λ p l low marked. closed p l low marked (cases_eq p n);
}
  where
    same : AreKept links links pool pool
    same = record { marks = λ p l marked. marked; bounds = λ p l marked. refl }

    closed : (p : ℕ) (l : Link) → p < n + 1 → mark links p ≡ Some l → (p ≡ n) ⊎ (p ≡ n → ⊥) → IsClosed trie links led pool p l (length (edges_of trie p))
    closed p l low marked (inl e) = absurd (false≢true (sym none ∙ ap is_some (subst (λ (q : ℕ). mark links q ≡ Some l) e marked)))
    closed p l low marked (inr apart) = walked.closed p l (omega (arith, low, apart)) marked

marked_by : (links : List (Option Link)) (at : ℕ) (x : Option Link) → mark links at ≡ x → is_some x ≡ true → IsMarked links at
marked_by links at None is some = absurd (false≢true some)
marked_by links at (Some link) is some = record { link = link; is = is }

pub is_marked : (links : List (Option Link)) (at : ℕ) → is_some (mark links at) ≡ true → IsMarked links at
is_marked links at some = marked_by links at (mark links at) refl some

pub complete : (trie : List ℕ) (links : List (Option Link)) (led : List (Option Source)) (pool : List Bound) → AreLinks trie links led pool (length trie) 0 → IsComplete trie links
complete trie links led pool walked = record { led = led; pool = pool; walked = walked }

pub ruleset walks = (is_marked)
