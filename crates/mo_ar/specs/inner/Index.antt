-- The index of offers by name: a node for each name that is offered, and those of one bucket of names chained.
use Rattle.std.specs.Prelude.{ℕ, ◌+◌, ◌-◌, ◌/◌, ◌%◌, ◌^◌, ◌≡◌, ◌≢◌, ◌≤◌, ◌<◌, List, [], ◌∷◌, length, map, drop, min, slice_index, slice_index_or, All, Some, None}
use Rattle.std.specs.List.{AllPairs}
use Rattle.mo_ar.specs.Offers.{first_offer}
use Rattle.mo_ar.specs.Text.{part}
use Rattle.mo_ar.specs.inner.Hash.{hash}
use Rattle.mo_ar.specs.inner.Order.{rank}
use Rattle.mo_strings.specs.Strings.{first_nul}
use Rattle.mo_ar.specs.declared.index.Index.{Index}
use Rattle.mo_ar.specs.declared.index.Node.{Node}
use Rattle.mo_ar.specs.declared.offers.Entry.{Entry}
use Rattle.mo_ar.specs.declared.offers.Offer.{Offer}

-- an offer by the place of its name among the strings
abbrev pub offer_of : List ℕ → Entry → Offer
offer_of strings entry = record { name = part strings entry.at entry.size; member = entry.member }

-- an entry whose name begins at its place and ends before the next NUL
pub record IsEntry (strings : List ℕ) (entry : Entry) : Type 0 where
  pub within : entry.at + entry.size < length strings
  pub ends : first_nul (drop entry.at strings) ≡ Some entry.size

abbrev pub offers_of : List ℕ → List Entry → List Offer
offers_of strings entries = map (offer_of strings) entries

-- the bucket of a name, of m buckets: by the upper half of its hash, or by its place among some entries' names if there
-- are such
unfoldable pub bucket : List ℕ → List Entry → ℕ → List ℕ → ℕ
bucket strings [] m name = hash name / 2 ^ 32 % m
bucket strings (entry ∷ order) m name = rank strings (entry ∷ order) name % m

-- the buckets of the names of the entries from an index on, of m buckets
pub record AreBuckets (strings : List ℕ) (order : List Entry) (m : ℕ) (entries : List Entry) (from : ℕ) (buckets : List ℕ) : Type 0 where
  pub each : (i : ℕ) (d : Entry) → from ≤ i → i < from + length buckets → slice_index buckets (i - from) ≡ bucket strings order m (part strings (slice_index_or entries i d).at (slice_index_or entries i d).size)
  pub within : (k : ℕ) → k < length buckets → slice_index buckets k < m

-- a name that stands at a place, if it is known to stand somewhere
abbrev pub StandsAt : List ℕ → List ℕ → ℕ → Type 0
StandsAt strings name at = (first_nul (drop at strings) ≡ Some (length name)) × (name ≡ part strings at (length name))

-- the name of a node
unfoldable pub node_name : List ℕ → Node → List ℕ
node_name strings node = part strings node.entry.at node.entry.size

-- a node with one member more for its name
abbrev pub lowered : ℕ → Node → Node
lowered member node = record { entry = record { at = node.entry.at; size = node.entry.size; member = min member node.entry.member }; next = node.next }

-- Where a bucket begins among the first so many nodes: at the last of them that is in it, counted from 1, or at 0 where
-- none is.
pub record BeginsAt (strings : List ℕ) (order : List Entry) (m : ℕ) (nodes : List Node) (b bound at : ℕ) : Type 0 where
  pub within : at ≤ bound
  pub here : (d : Node) → 0 < at → bucket strings order m (node_name strings (slice_index_or nodes (at - 1) d)) ≡ b
  pub last : (k : ℕ) (d : Node) → k < bound → bucket strings order m (node_name strings (slice_index_or nodes k d)) ≡ b → k < at

-- each node leads to the one before it in its bucket
pub record AreNexts (strings : List ℕ) (order : List Entry) (m : ℕ) (nodes : List Node) : Type 0 where
  pub each : (k : ℕ) (d : Node) → k < length nodes → BeginsAt strings order m nodes (bucket strings order m (node_name strings (slice_index_or nodes k d))) k (slice_index_or nodes k d).next

-- nodes whose names are parts of the strings, chained by buckets
pub record AreChained (strings : List ℕ) (order : List Entry) (heads : List ℕ) (nodes : List Node) : Type 0 where
  pub some : 0 < length heads
  pub heads_are : (b : ℕ) → b < length heads → BeginsAt strings order (length heads) nodes b (length nodes) (slice_index heads b)
  pub nexts_are : AreNexts strings order (length heads) nodes
  pub entries : All (λ node. IsEntry strings node.entry) nodes
  pub order_is : All (IsEntry strings) order

-- a node has another name
abbrev pub IsOther : List ℕ → List ℕ → Node → Type 0
IsOther strings name node = node_name strings node ≢ name

-- the node at an index has a name
pub record IsNodeOf (strings : List ℕ) (nodes : List Node) (name : List ℕ) (at : ℕ) : Type 0 where
  pub within : at < length nodes
  pub named : (d : Node) → node_name strings (slice_index_or nodes at d) ≡ name

-- a node for each name that is offered, with the least number of a member for it
pub record AreNodes (strings : List ℕ) (offers : List Offer) (nodes : List Node) : Type 0 where
  pub bests : All (λ node. first_offer (node_name strings node) offers ≡ Some node.entry.member) nodes
  pub once : AllPairs (λ a b. node_name strings a ≢ node_name strings b) nodes
  pub all : (name : List ℕ) → All (IsOther strings name) nodes → first_offer name offers ≡ None

-- the index of some offers
pub record IsIndex (strings : List ℕ) (order : List Entry) (offers : List Offer) (heads : List ℕ) (nodes : List Node) : Type 0 where
  pub chained : AreChained strings order heads nodes
  pub named : AreNodes strings offers nodes

abbrev pub IsIndexOf : List ℕ → List Offer → Index → Type 0
IsIndexOf strings offers index = IsIndex strings index.order.items offers index.heads.items index.nodes.items

-- an index of the offers of these entries, whose names are parts of the strings
pub record IsIndexed (strings : List ℕ) (entries : List Entry) (index : Index) : Type 0 where
  pub parts : All (IsEntry strings) entries
  pub index_of : IsIndexOf strings (offers_of strings entries) index
