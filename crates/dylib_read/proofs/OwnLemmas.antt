-- The nodes to which the marks lead: the bytes of their edges, the ways to them, and the walks that come there.
use Rattle.std.proofs.Common.{◌≡◌, ◌≢◌, ℕ, zero, suc, ◌+◌, ◌<◌, ◌≤◌, ◌⊎◌, inl, inr, Bool, true, false, not, ◌||◌, List, [], ◌∷◌, ◌++◌, length, take, drop, map, get_or, slice_get, Option, Some, None, refl, sym, ap, subst, ◌∙◌, arith, append_assoc, eqb, unwrap_or}
use Rattle.std.specs.List.{AllByRecursion}
use Rattle.std.specs.Option.{option_map, option_map_or, option_and_then, is_some}
use Rattle.std.proofs.Math.ListN.{get_or-eq_default}
use Rattle.std.proofs.lemmas.Bool.{cases_Bool, cases_lt, eqb-true, false≢true, or_parts, true≢false}
use Rattle.std.proofs.lemmas.List.{get_or_default}
use Rattle.mo_bytes.specs.Uleb.{uleb_at}
use Rattle.mo_strings.specs.Strings.{first_nul}
use Rattle.mo_strings.proofs.TableLemmas.{nul_first, nul_later}
use Rattle.export_trie.specs.Strings.{begins}
use Rattle.dylib_read.specs.declared.trie_node.Edge.{Edge}
use Rattle.dylib_read.specs.declared.trie_node.EdgeRead.{EdgeRead}
use Rattle.dylib_read.specs.declared.trie_node.Node.{Node}
use Rattle.dylib_read.specs.declared.trie_walk.Bound.{Bound}
use Rattle.dylib_read.specs.declared.trie_walk.Link.{Link}
use Rattle.dylib_read.specs.declared.trie_walk.Source.{Source}
use Rattle.dylib_read.specs.TrieNodes.{children_at, data_at, edge_at, edges_at, label, node_at}
use Rattle.dylib_read.specs.Trie.{HasEdge, IsWalked, Takes, Walk, edges_of, root, along}
use Rattle.dylib_read.specs.inner.TrieLinks.{AreLinks, IsLink, IsWay, bars, bound_of, bounds_of, is_end, mark, narrowed, own_at, spelled}
use Rattle.dylib_read.proofs.BoundLemmas.{ArePlain, HaveBytes, bars_append, bars_over, bytes_append, labels_bar, narrowed_plain, nul_passes, plain_bytes}
use Rattle.dylib_read.proofs.WalkLemmas.{take_nothing}

-- ---- labels have no NUL

pub nul_free : (bs : List ℕ) (n : ℕ) → first_nul bs ≡ Some n → AllByRecursion (λ b. b ≢ 0) (take n bs)
nul_free [] n is = subst (AllByRecursion (λ b. b ≢ 0)) (take_nothing n) tt
nul_free (b ∷ bs) n is = by (nul_free bs) (cases_Bool (eqb b 0))
  where
    later : ((k : ℕ) → first_nul bs ≡ Some k → AllByRecursion (λ b. b ≢ 0) (take k bs)) → (found : Option ℕ) → first_nul bs ≡ found → option_map (λ k. 1 + k) found ≡ Some n → (b ≡ 0 → ⊥) → AllByRecursion (λ b. b ≢ 0) (take n (b ∷ bs))
    later again None there e some = absurd (false≢true (ap is_some e))
    later again (Some k) there e some =
        let at : 1 + k ≡ n = ap (λ (o : Option ℕ). unwrap_or o 0) e in
        let step : suc k ≡ n = omega (arith, at) in
        subst (λ (m : ℕ). AllByRecursion (λ b. b ≢ 0) (take m (b ∷ bs))) step (some, again k there)

    by : ((k : ℕ) → first_nul bs ≡ Some k → AllByRecursion (λ b. b ≢ 0) (take k bs)) → (eqb b 0 ≡ true) ⊎ (eqb b 0 ≡ false) → AllByRecursion (λ b. b ≢ 0) (take n (b ∷ bs))
    by again (inl nul) =
        let at : 0 ≡ n = ap (λ (o : Option ℕ). unwrap_or o 0) (sym (nul_first b bs nul) ∙ is) in
        subst (λ (m : ℕ). AllByRecursion (λ b. b ≢ 0) (take m (b ∷ bs))) at tt
    by again (inr other) = later again (first_nul bs) refl (sym (nul_later b bs other) ∙ is) (λ e. true≢false (sym (subst (λ (x : ℕ). eqb x 0 ≡ true) (sym e) refl) ∙ other))

pub edge_bytes : (trie : List ℕ) (at : ℕ) (found : Option ℕ) (number : ℕ → Option (ℕ × ℕ)) (read : EdgeRead) → first_nul (drop at trie) ≡ found → option_and_then (λ size. option_map (λ child. record { edge = record { at = at; size = size; child = child.0 }; next = child.1 }) (number size)) found ≡ Some read → AllByRecursion (λ b. b ≢ 0) (label trie read.edge)
edge_bytes trie at None number read there e = absurd (false≢true (ap is_some e))
edge_bytes trie at (Some size) number read there e = by (number size) e
  where
    by : (child : Option (ℕ × ℕ)) → option_map (λ c. record { edge = record { at = at; size = size; child = c.0 }; next = c.1 }) child ≡ Some read → AllByRecursion (λ b. b ≢ 0) (label trie read.edge)
    by None e = absurd (false≢true (ap is_some e))
    by (Some child) e =
        let here : EdgeRead = record { edge = record { at = at; size = size; child = child.0 }; next = child.1 } in
        let same : here ≡ read = ap (λ (o : Option EdgeRead). unwrap_or o here) e in
        subst (λ (r : EdgeRead). AllByRecursion (λ b. b ≢ 0) (label trie r.edge)) same (nul_free (drop at trie) size there)

pub edge_at_bytes : (trie : List ℕ) (at : ℕ) (read : EdgeRead) → edge_at trie at ≡ Some read → AllByRecursion (λ b. b ≢ 0) (label trie read.edge)
unfolding edge_at
edge_at_bytes trie at read e = edge_bytes trie at (first_nul (drop at trie)) (λ (size : ℕ). uleb_at trie (at + size + 1)) read refl e

-- the labels of edges have no NUL
pub EdgesPlain : List ℕ → List Edge → Type 0
EdgesPlain trie edges = AllByRecursion (λ edge. AllByRecursion (λ b. b ≢ 0) (label trie edge)) edges

pub edges_at_bytes : (trie : List ℕ) (count at : ℕ) (edges : List Edge) → edges_at trie count at ≡ Some edges → EdgesPlain trie edges
unfolding EdgesPlain
edges_at_bytes trie zero at edges e =
    let none : [] ≡ edges = ap (λ (o : Option (List Edge)). unwrap_or o []) e in
    subst (AllByRecursion (λ edge. AllByRecursion (λ b. b ≢ 0) (label trie edge))) none tt
edges_at_bytes trie (suc count) at edges e = by (edges_at_bytes trie count) (edge_at trie at) refl e
  where
    more : ((at : ℕ) (edges : List Edge) → edges_at trie count at ≡ Some edges → EdgesPlain trie edges) → (read : EdgeRead) (others : Option (List Edge)) → edge_at trie at ≡ Some read → edges_at trie count read.next ≡ others → option_map (λ es. read.edge ∷ es) others ≡ Some edges → AllByRecursion (λ edge. AllByRecursion (λ b. b ≢ 0) (label trie edge)) edges
    more again read None there rest e = absurd (false≢true (ap is_some e))
    more again read (Some others) there rest e =
        let all : read.edge ∷ others ≡ edges = ap (λ (o : Option (List Edge)). unwrap_or o []) e in
        subst (AllByRecursion (λ edge. AllByRecursion (λ b. b ≢ 0) (label trie edge))) all (edge_at_bytes trie at read there, again read.next others rest)

    by : ((at : ℕ) (edges : List Edge) → edges_at trie count at ≡ Some edges → EdgesPlain trie edges) → (found : Option EdgeRead) → edge_at trie at ≡ found → option_and_then (λ read. option_map (λ es. read.edge ∷ es) (edges_at trie count read.next)) found ≡ Some edges → AllByRecursion (λ edge. AllByRecursion (λ b. b ≢ 0) (label trie edge)) edges
    by again None there e = absurd (false≢true (ap is_some e))
    by again (Some read) there e = more again read (edges_at trie count read.next) there refl e

pub children_bytes : (trie : List ℕ) (at : ℕ) (edges : List Edge) → children_at trie at ≡ Some edges → EdgesPlain trie edges
unfolding children_at
children_bytes trie at edges e = by (slice_get trie at) e
  where
    by : (count : Option ℕ) → option_and_then (λ count. edges_at trie count (at + 1)) count ≡ Some edges → EdgesPlain trie edges
    by None e = absurd (false≢true (ap is_some e))
    by (Some count) e = edges_at_bytes trie count (at + 1) edges e

pub node_edges : (trie : List ℕ) (size : Option (ℕ × ℕ)) (data' : ℕ × ℕ → Option (Option ℕ)) (at : ℕ × ℕ → ℕ) (node : Node) → option_and_then (λ s. option_and_then (λ f. option_map (λ e. record { flags = f; edges = e }) (children_at trie (at s))) (data' s)) size ≡ Some node → EdgesPlain trie node.edges
node_edges trie None data' at node e = absurd (false≢true (ap is_some e))
node_edges trie (Some s) data' at node e = by (data' s) (children_at trie (at s)) refl e
  where
    by : (flags : Option (Option ℕ)) (edges : Option (List Edge)) → children_at trie (at s) ≡ edges → option_and_then (λ f. option_map (λ e. record { flags = f; edges = e }) edges) flags ≡ Some node → EdgesPlain trie node.edges
    by None edges there e = absurd (false≢true (ap is_some e))
    by (Some f) None there e = absurd (false≢true (ap is_some e))
    by (Some f) (Some es) there e =
        let same : es ≡ node.edges = ap (λ (o : Option Node). option_map_or (λ (n : Node). n.edges) o es) e in
        subst (EdgesPlain trie) same (children_bytes trie (at s) es there)

pub node_bytes : (trie : List ℕ) (at : ℕ) (node : Node) → node_at trie at ≡ Some node → EdgesPlain trie node.edges
unfolding node_at
node_bytes trie at node e =
    node_edges trie (uleb_at trie at) (λ (s : ℕ × ℕ). data_at trie s.0 s.1) (λ (s : ℕ × ℕ). s.1 + s.0) node e

pub edges_plain : (trie : List ℕ) (at : ℕ) → EdgesPlain trie (edges_of trie at)
unfolding edges_of EdgesPlain
edges_plain trie at = by (node_at trie at) refl
  where
    by : (found : Option Node) → node_at trie at ≡ found → EdgesPlain trie (option_map_or (λ (node : Node). node.edges) found [])
    by None there = tt
    by (Some node) there = node_bytes trie at node there

pub bounds_bytes : (trie : List ℕ) (edges : List Edge) (k : ℕ) → EdgesPlain trie edges → HaveBytes trie (map bound_of (take k edges))
unfolding EdgesPlain HaveBytes
bounds_bytes trie edges zero plain = tt
bounds_bytes trie [] (suc k) plain = tt
bounds_bytes trie (e ∷ edges) (suc k) plain = (plain.0, bounds_bytes trie edges k plain.1)

-- ---- edges

pub edges_is : (trie : List ℕ) (at : ℕ) (read : Option Node) (node : Node) (xs : List Edge) → read ≡ node_at trie at → read ≡ Some node → xs ≡ node.edges → edges_of trie at ≡ xs
unfolding edges_of
edges_is trie at read node xs there some is = rw (← there, some, is) refl

pub has_edge : (trie : List ℕ) (at k : ℕ) (xs : List Edge) (d : Edge) → edges_of trie at ≡ xs → k < length xs → HasEdge trie at k (get_or xs k d)
has_edge trie at k xs d e within = record { within = rw e within; is = rw e (get_or_default xs k (get_or xs k d) d within) }

-- two edges of one number are one
pub same_edge : (trie : List ℕ) (at k : ℕ) (a b : Edge) → HasEdge trie at k a → HasEdge trie at k b → a ≡ b
same_edge trie at k a b has too = sym has.is ∙ (get_or_default (edges_of trie at) k a b has.within ∙ too.is)

-- ---- marks

pub one_link : (x : Option Link) (a b : Link) → x ≡ Some a → x ≡ Some b → a ≡ b
one_link x a b p q = ap (λ (o : Option Link). option_map_or (λ (l : Link). l) o a) (sym p ∙ q)

pub marked_within : (links : List (Option Link)) (at : ℕ) (link : Link) → mark links at ≡ Some link → at < length links
marked_within links at link marked = by (cases_lt at (length links))
  where
    by : (at < length links) ⊎ (length links ≤ at) → at < length links
    by (inl low) = low
    by (inr past) = absurd (false≢true (ap is_some (sym (get_or-eq_default links None past) ∙ marked)))

pub not_start : (trie : List ℕ) (links : List (Option Link)) (pool : List Bound) (n k at : ℕ) (link : Link) → (at ≡ 0 → ⊥) → (at ≡ 0) ⊎ IsLink trie links pool n k at link → IsLink trie links pool n k at link
not_start trie links pool n k at link some (inl e) = absurd (some e)
not_start trie links pool n k at link some (inr made) = made

-- ---- names that a node has to itself

-- a walk comes to the node with each rest that isn't barred
pub record Owns (trie : List ℕ) (bounds : List Bound) (ends : Bool) (at : ℕ) (name : List ℕ) : Type 0 where
  pub on : (rest : List ℕ) → bars trie bounds rest ≡ false → (rest ≡ [] → ends ≡ true) → Walk trie (name ++ rest) at rest

-- a walk goes on along an edge that isn't barred
pub record GoesOn (trie : List ℕ) (at number : ℕ) (edge : Edge) (name rest : List ℕ) : Type 0 where
  pub walk : Walk trie (name ++ (label trie edge ++ rest)) at (label trie edge ++ rest)
  pub takes : Takes trie at (label trie edge ++ rest) number edge rest

pub goes_on : (trie : List ℕ) (bounds : List Bound) (ends : Bool) (at number : ℕ) (edge : Edge) (name rest : List ℕ) → Owns trie bounds ends at name → HasEdge trie at number edge → bars trie (own_at trie at bounds number) (label trie edge) ≡ false → bars trie (narrowed trie (own_at trie at bounds number) (label trie edge)) rest ≡ false → (label trie edge ++ rest ≡ [] → ⊥) → GoesOn trie at number edge name rest
goes_on trie bounds ends at number edge name rest owns has taken free some = record {
  walk = owns.on whole parts.0 (λ e. absurd (some e));
  takes = record {
    has = has;
    some = some;
    spells = refl;
    first = λ earlier other low there.
        subst (λ (e : Edge). begins (label trie e) whole ≡ false) there.is
        (labels_bar trie (edges_of trie at) number whole parts.1 earlier other low there.within);
  };
}
  where
    whole : List ℕ
    whole = label trie edge ++ rest

    own : bars trie (own_at trie at bounds number) whole ≡ false
    own = bars_over trie (own_at trie at bounds number) (label trie edge) rest taken ∙ free

    parts : (bars trie bounds whole ≡ false) × (bars trie (map bound_of (take number (edges_of trie at))) whole ≡ false)
    parts =
        or_parts (bars trie bounds whole) (bars trie (map bound_of (take number (edges_of trie at))) whole)
        (sym (bars_append trie bounds (map bound_of (take number (edges_of trie at))) whole) ∙ own)

pub empty_parts : (a b : List ℕ) → a ++ b ≡ [] → (a ≡ []) × (b ≡ [])
empty_parts [] b e = (refl, e)
empty_parts (x ∷ a) b e = absurd (omega (arith, ap length e))

-- where nothing is left, the name ends there
pub end_known : (trie : List ℕ) (at : ℕ) (link : Link) → 0 < at → label trie link.edge ≡ [] → is_end trie at link ≡ true → ⊥
unfolding is_end
end_known trie at link some none is = by (or_false (eqb at 0) (apart (cases_Bool (eqb at 0))) is)
  where
    apart : (eqb at 0 ≡ true) ⊎ (eqb at 0 ≡ false) → eqb at 0 ≡ false
    apart (inl e) = absurd (omega (arith, some, eqb-true at 0 e))
    apart (inr e) = e

    or_false : (b : Bool) → b ≡ false → (b || not (eqb (length (label trie link.edge)) 0)) ≡ true → not (eqb (length (label trie link.edge)) 0) ≡ true
    or_false true e h = absurd (true≢false e)
    or_false false e h = h

    by : not (eqb (length (label trie link.edge)) 0) ≡ true → ⊥
    by h = false≢true (subst (λ (l : List ℕ). not (eqb (length l) 0) ≡ true) none h)

pub owns_child : (trie : List ℕ) (links : List (Option Link)) (pool : List Bound) (n k at : ℕ) (link : Link) (ends : Bool) (name : List ℕ) → (made : IsLink trie links pool n k at link) → Owns trie (bounds_of pool made.source) ends link.from name → Owns trie (bounds_of pool link) (is_end trie at link) at (name ++ label trie link.edge)
owns_child trie links pool n k at link ends name made owns = record { on = on }
  where
    some : (rest : List ℕ) → (rest ≡ [] → is_end trie at link ≡ true) → label trie link.edge ++ rest ≡ [] → ⊥
    some rest ended none =
        let parts = empty_parts (label trie link.edge) rest none in
        end_known trie at link (omega (arith, made.forward)) parts.0 (ended parts.1)

    on : (rest : List ℕ) → bars trie (bounds_of pool link) rest ≡ false → (rest ≡ [] → is_end trie at link ≡ true) → Walk trie ((name ++ label trie link.edge) ++ rest) at rest
    on rest free ended =
        let step : GoesOn trie link.from made.number link.edge name rest =
        goes_on trie (bounds_of pool made.source) ends link.from made.number link.edge name rest owns made.has made.taken
        (subst (λ (b : List Bound). bars trie b rest ≡ false) made.bounds free) (some rest ended) in
        subst (λ (whole : List ℕ). Walk trie whole at rest) (sym (append_assoc name (label trie link.edge) rest))
        (along link.from (label trie link.edge ++ rest) made.number link.edge step.walk step.takes made.child)

-- ---- ways

pub way_step : (trie : List ℕ) (links : List (Option Link)) (pool : List Bound) (n k at : ℕ) (link : Link) → mark links at ≡ Some link → (made : IsLink trie links pool n k at link) → (way : List Edge) → IsWay links link.from way → IsWay links at (link.edge ∷ way)
way_step trie links pool n k at link marked made way is = (link, marked, (λ e. omega (arith, made.forward, e)), refl, is)

pub way_of : (trie : List ℕ) (links : List (Option Link)) (led : List (Option Source)) (pool : List Bound) (n k : ℕ) → AreLinks trie links led pool n k → (most at : ℕ) (link : Link) → at < most → mark links at ≡ Some link → (way : List Edge) × IsWay links at way
way_of trie links led pool n k walked zero at link low marked = absurd (omega (arith, low))
way_of trie links led pool n k walked (suc most) at link low marked = by (way_of trie links led pool n k walked most) (walked.sound at link marked)
  where
    by : ((at : ℕ) (link : Link) → at < most → mark links at ≡ Some link → (way : List Edge) × IsWay links at way) → (at ≡ 0) ⊎ IsLink trie links pool n k at link → (way : List Edge) × IsWay links at way
    by again (inl e) = ([], e)
    by again (inr made) =
        let rest : (way : List Edge) × IsWay links link.from way = again link.from made.source (omega (arith, low, made.forward)) made.marked in
        (link.edge ∷ rest.0, way_step trie links pool n k at link marked made rest.0 rest.1)

pub start_unbound : (trie : List ℕ) (links : List (Option Link)) (led : List (Option Source)) (pool : List Bound) (n k at : ℕ) (link : Link) → AreLinks trie links led pool n k → at ≡ 0 → mark links at ≡ Some link → bounds_of pool link ≡ []
start_unbound trie links led pool n k at link walked e marked =
    ap (bounds_of pool) (one_link (mark links 0) link walked.start (subst (λ (m : ℕ). mark links m ≡ Some link) e marked) walked.root) ∙ walked.unbound

pub way_owns : (trie : List ℕ) (links : List (Option Link)) (led : List (Option Source)) (pool : List Bound) (n k : ℕ) → AreLinks trie links led pool n k → (at : ℕ) (link : Link) (way : List Edge) → mark links at ≡ Some link → IsWay links at way → Owns trie (bounds_of pool link) (is_end trie at link) at (spelled trie way)
way_owns trie links led pool n k walked at link [] marked way = record { on = λ rest free ended. root way refl }
way_owns trie links led pool n k walked at link (edge ∷ above) marked way =
    let same : way.0 ≡ link = one_link (mark links at) way.0 link way.1 marked in
    let made : IsLink trie links pool n k at link = not_start trie links pool n k at link way.2 (walked.sound at link marked) in
    let before : IsWay links link.from above = subst (λ (l : Link). IsWay links l.from above) same way.4 in
    let owns = way_owns trie links led pool n k walked link.from made.source above made.marked before in
    subst (λ (e : Edge). Owns trie (bounds_of pool link) (is_end trie at link) at (spelled trie above ++ label trie e))
    (sym (way.3 ∙ ap (λ (l : Link). l.edge) same))
    (owns_child trie links pool n k at link (is_end trie link.from made.source) (spelled trie above) made owns)

pub own_bytes : (trie : List ℕ) (at : ℕ) (bounds : List Bound) (k : ℕ) → ArePlain trie bounds → HaveBytes trie (own_at trie at bounds k)
own_bytes trie at bounds k plain =
    bytes_append trie bounds (map bound_of (take k (edges_of trie at))) (plain_bytes trie bounds plain) (bounds_bytes trie (edges_of trie at) k (edges_plain trie at))

pub no_bounds_plain : (trie : List ℕ) → ArePlain trie []
unfolding ArePlain
no_bounds_plain trie = tt

pub way_plain : (trie : List ℕ) (links : List (Option Link)) (led : List (Option Source)) (pool : List Bound) (n k : ℕ) → AreLinks trie links led pool n k → (at : ℕ) (link : Link) (way : List Edge) → mark links at ≡ Some link → IsWay links at way → ArePlain trie (bounds_of pool link)
way_plain trie links led pool n k walked at link [] marked way =
    subst (ArePlain trie) (sym (start_unbound trie links led pool n k at link walked way marked)) (no_bounds_plain trie)
way_plain trie links led pool n k walked at link (edge ∷ above) marked way =
    let same : way.0 ≡ link = one_link (mark links at) way.0 link way.1 marked in
    let made : IsLink trie links pool n k at link = not_start trie links pool n k at link way.2 (walked.sound at link marked) in
    let before : IsWay links link.from above = subst (λ (l : Link). IsWay links l.from above) same way.4 in
    let plain = way_plain trie links led pool n k walked link.from made.source above made.marked before in
    subst (ArePlain trie) (sym made.bounds)
    (narrowed_plain trie (own_at trie link.from (bounds_of pool made.source) made.number) (label trie link.edge)
    (own_bytes trie link.from (bounds_of pool made.source) made.number plain) made.taken)

-- a marked node, with its way
pub record IsOwned (trie : List ℕ) (links : List (Option Link)) (pool : List Bound) (at : ℕ) (link : Link) : Type 0 where
  pub way : List Edge
  pub owns : Owns trie (bounds_of pool link) (is_end trie at link) at (spelled trie way)
  pub plain : ArePlain trie (bounds_of pool link)

pub owned : (trie : List ℕ) (links : List (Option Link)) (led : List (Option Source)) (pool : List Bound) (n k at : ℕ) (link : Link) → AreLinks trie links led pool n k → mark links at ≡ Some link → IsOwned trie links pool at link
owned trie links led pool n k at link walked marked =
    let way : (way : List Edge) × IsWay links at way = way_of trie links led pool n k walked (suc at) at link (omega arith) marked in
    record {
      way = way.0;
      owns = way_owns trie links led pool n k walked at link way.0 marked way.1;
      plain = way_plain trie links led pool n k walked at link way.0 marked way.1;
    }

pub some_apart : (x : ℕ) (xs : List ℕ) → x ∷ xs ≡ [] → ⊥
some_apart x xs e = omega (arith, ap length e)

pub walked_at : (trie : List ℕ) (links : List (Option Link)) (led : List (Option Source)) (pool : List Bound) (n k at : ℕ) (link : Link) → AreLinks trie links led pool n k → mark links at ≡ Some link → IsWalked trie at
walked_at trie links led pool n k at link walked marked =
    let own = owned trie links led pool n k at link walked marked in
    record {
      name = spelled trie own.way ++ 0 ∷ [];
      rest = 0 ∷ [];
      walk = own.owns.on (0 ∷ []) (nul_passes trie (bounds_of pool link) own.plain) (λ e. absurd (some_apart 0 [] e));
    }
