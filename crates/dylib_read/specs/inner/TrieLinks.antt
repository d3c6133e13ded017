-- What the walks through a trie have marked: for each place to which a walk goes, the edge along which it goes, and what
-- the rest of its name may not begin with there, since an earlier edge takes such names.
use Rattle.std.specs.Prelude.{ℕ, ◌≡◌, ◌+◌, ◌-◌, ◌<◌, ◌≤◌, ◌⊎◌, ◌==◌, ◌&&◌, ◌||◌, Bool, true, false, not, nat_lt, if◌then◌else◌, List, [], ◌∷◌, ◌++◌, length, take, drop, map, slice_index_or, slice_set, Option, Some, None, is_some}
use Rattle.std.specs.List.{list_any}
use Rattle.std.specs.Option.{option_map_or}
use Rattle.export_trie.specs.Strings.{begins}
use Rattle.dylib_read.specs.declared.trie_node.Edge.{Edge}
use Rattle.dylib_read.specs.declared.trie_node.Node.{Node}
use Rattle.dylib_read.specs.declared.trie_walk.Bound.{Bound}
use Rattle.dylib_read.specs.declared.trie_walk.Link.{Link}
use Rattle.dylib_read.specs.declared.trie_walk.Source.{Source}
use Rattle.dylib_read.specs.declared.trie_fault.TrieFault.{TrieFault}
use Rattle.dylib_read.specs.declared.trie_fault.TrieFault.TheVariants.{Broken, OutOfMemory}
use Rattle.dylib_read.specs.Trie.{HasEdge, IsBroken, edges_of}
use Rattle.dylib_read.specs.TrieNodes.{label, node_at}

-- ---- bounds

abbrev pub text : List ℕ → Bound → List ℕ
text trie bound = take bound.size (drop bound.at trie)

-- one of the bounds begins the rest of a name
abbrev pub bars : List ℕ → List Bound → List ℕ → Bool
bars trie bounds rest = list_any (λ bound. begins (text trie bound) rest) bounds

-- what is left of a bound behind a label, where the label begins it
abbrev pub narrow : List ℕ → Bound → List ℕ → Option Bound
narrow trie bound label =
    if begins label (text trie bound) then Some (record { at = bound.at + length label; size = bound.size - length label }) else None

-- what is left of bounds behind a label that begins them
abbrev pub narrowed : List ℕ → List Bound → List ℕ → List Bound
narrowed trie [] label = []
narrowed trie (bound ∷ bounds) label = option_map_or (λ left. left ∷ narrowed trie bounds label) (narrow trie bound label) (narrowed trie bounds label)

abbrev pub bound_of : Edge → Bound
bound_of edge = record { at = edge.at; size = edge.size }

-- the bounds at the edge of this number of a node: those of the node, and the labels of the earlier edges
abbrev pub own_at : List ℕ → ℕ → List Bound → ℕ → List Bound
own_at trie at bounds number = bounds ++ map bound_of (take number (edges_of trie at))

-- ---- marks

abbrev pub mark : List (Option Link) → ℕ → Option Link
mark links at = slice_index_or links at None

abbrev pub trace : List (Option Source) → ℕ → Option Source
trace led at = slice_index_or led at None

pub record IsMarked (links : List (Option Link)) (at : ℕ) : Type 0 where
  pub link : Link
  pub is : mark links at ≡ Some link

-- the bounds of a link
unfoldable pub bounds_of : List Bound → Link → List Bound
bounds_of pool link = take link.count (drop link.first pool)

-- a node later than another, in the trie
unfoldable pub is_ahead : List (Option Link) → ℕ → Edge → Bool
is_ahead links from edge = nat_lt from edge.child && nat_lt edge.child (length links)

-- the name of a node ends a walk: that of the root, and that behind an edge that has a label
unfoldable pub is_end : List ℕ → ℕ → Link → Bool
is_end trie at link = at == 0 || not (length (label trie link.edge) == 0)

-- one of the edges of the first n nodes, or of the first k edges of the next
abbrev pub IsEarly : ℕ → ℕ → ℕ → ℕ → Type 0
IsEarly n k from number = (from < n) ⊎ ((from ≡ n) × (number < k))

-- the link of a place that isn't the root
pub record IsLink (trie : List ℕ) (links : List (Option Link)) (pool : List Bound) (n k at : ℕ) (link : Link) : Type 0 where
  pub child : at ≡ link.edge.child
  pub number : ℕ
  pub has : HasEdge trie link.from number link.edge
  pub early : IsEarly n k link.from number
  pub forward : link.from < at
  pub source : Link
  pub marked : mark links link.from ≡ Some source
  pub taken : bars trie (own_at trie link.from (bounds_of pool source) number) (label trie link.edge) ≡ false
  pub bounds : bounds_of pool link ≡ narrowed trie (own_at trie link.from (bounds_of pool source) number) (label trie link.edge)

-- where the edge comes from that leads to a place
pub record IsTraced (trie : List ℕ) (links : List (Option Link)) (n k at : ℕ) (source : Source) : Type 0 where
  pub edge : Edge
  pub has : HasEdge trie source.from source.number edge
  pub child : at ≡ edge.child
  pub early : IsEarly n k source.from source.number
  pub marked : IsMarked links source.from

-- a walk goes along an edge of a marked node, and has marked the node that it leads to
pub record IsTaken (trie : List ℕ) (links : List (Option Link)) (pool : List Bound) (at : ℕ) (link : Link) (number : ℕ) (edge : Edge) : Type 0 where
  pub forward : at < edge.child
  pub next : Link
  pub marked : mark links edge.child ≡ Some next
  pub from : next.from ≡ at
  pub edge_is : next.edge ≡ edge
  pub bounds : bounds_of pool next ≡ narrowed trie (own_at trie at (bounds_of pool link) number) (label trie edge)

-- a node stands at the place, and of its first k edges each has left its trace, and those that are taken a mark
pub record IsClosed (trie : List ℕ) (links : List (Option Link)) (led : List (Option Source)) (pool : List Bound) (at : ℕ) (link : Link) (k : ℕ) : Type 0 where
  pub node : Node
  pub there : node_at trie at ≡ Some node
  pub traces : (number : ℕ) (edge : Edge) → HasEdge trie at number edge → number < k → edge.child < length trie → trace led edge.child ≡ Some (record { from = at; number = number })
  pub takes : (number : ℕ) (edge : Edge) → HasEdge trie at number edge → number < k → bars trie (own_at trie at (bounds_of pool link) number) (label trie edge) ≡ false → IsTaken trie links pool at link number edge

-- the marks that the nodes before n have made, and the first k edges of the node at n
pub record AreLinks (trie : List ℕ) (links : List (Option Link)) (led : List (Option Source)) (pool : List Bound) (n k : ℕ) : Type 0 where
  pub long : length links ≡ length trie
  pub long_led : length led ≡ length trie
  pub start : Link
  pub root : mark links 0 ≡ Some start
  pub unbound : bounds_of pool start ≡ []
  pub inside : (at : ℕ) (link : Link) → mark links at ≡ Some link → link.first + link.count ≤ length pool
  pub sound : (at : ℕ) (link : Link) → mark links at ≡ Some link → (at ≡ 0) ⊎ IsLink trie links pool n k at link
  pub covered : (at : ℕ) (link : Link) → mark links at ≡ Some link → trace led at ≡ None → at ≡ 0
  pub traced : (at : ℕ) (source : Source) → trace led at ≡ Some source → IsTraced trie links n k at source
  pub closed : (at : ℕ) (link : Link) → at < n → mark links at ≡ Some link → IsClosed trie links led pool at link (length (edges_of trie at))

-- the walks through the whole trie have made the marks
pub record IsComplete (trie : List ℕ) (links : List (Option Link)) : Type 0 where
  pub led : List (Option Source)
  pub pool : List Bound
  pub walked : AreLinks trie links led pool (length trie) 0

-- a fault that has been found
abbrev pub IsFound : List ℕ → TrieFault → Type 0
IsFound trie Broken = IsBroken trie
IsFound trie OutOfMemory = Unit {0}

-- ---- one edge

-- a walk goes along an edge, and its node is marked
pub record IsGone (trie : List ℕ) (source : Source) (edge : Edge) (links new : List (Option Link)) (pool grown bounds : List Bound) : Type 0 where
  pub free : bars trie bounds (label trie edge) ≡ false
  pub ahead : is_ahead links source.from edge ≡ true
  pub pool_is : grown ≡ pool ++ narrowed trie bounds (label trie edge)
  pub links_are : new ≡ slice_set links edge.child (Some (record { from = source.from; edge = edge; first = length pool; count = length grown - length pool }))

-- no walk goes along an edge
pub record IsPassed (trie : List ℕ) (edge : Edge) (links new : List (Option Link)) (pool grown bounds : List Bound) : Type 0 where
  pub barred : bars trie bounds (label trie edge) ≡ true
  pub pool_is : grown ≡ pool
  pub links_are : new ≡ links

-- what an edge does to the marks, and to the bounds for the edges behind it
pub record Follows (trie : List ℕ) (source : Source) (edge : Edge) (links new : List (Option Link)) (led traced : List (Option Source)) (pool grown bounds more : List Bound) : Type 0 where
  pub free : trace led edge.child ≡ None
  pub led_is : traced ≡ slice_set led edge.child (Some source)
  pub bounds_are : more ≡ bounds ++ bound_of edge ∷ []
  pub gone : IsGone trie source edge links new pool grown bounds ⊎ IsPassed trie edge links new pool grown bounds

-- another edge leads where this one does, or a walk goes along it and not on
abbrev pub Stops : List ℕ → Source → Edge → List (Option Link) → List (Option Source) → List Bound → Type 0
Stops trie source edge links led bounds =
    (is_some (trace led edge.child) ≡ true)
    ⊎ ((bars trie bounds (label trie edge) ≡ false) × (is_ahead links source.from edge ≡ false))

-- ---- ways

-- each marked place but the root has its link from one before it that is marked
pub record IsBack (links : List (Option Link)) : Type 0 where
  pub back : (at : ℕ) (link : Link) → mark links at ≡ Some link → (at ≡ 0) ⊎ ((link.from < at) × IsMarked links link.from)

-- the edges of the links from a place back to the root
abbrev pub IsWay : List (Option Link) → ℕ → List Edge → Type 0
IsWay links at [] = at ≡ 0
IsWay links at (edge ∷ above) = (link : Link) × (mark links at ≡ Some link) × (at ≡ 0 → ⊥) × (edge ≡ link.edge) × IsWay links link.from above

-- what edges spell, of which the last is the first of the list
abbrev pub spelled : List ℕ → List Edge → List ℕ
spelled trie [] = []
spelled trie (edge ∷ above) = spelled trie above ++ label trie edge

-- the edges of the links back to the root spell the name
pub record IsNamed (trie : List ℕ) (links : List (Option Link)) (at : ℕ) (name : List ℕ) : Type 0 where
  pub way : List Edge
  pub back : IsWay links at way
  pub spells : name ≡ spelled trie way
