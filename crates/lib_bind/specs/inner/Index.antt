-- How the code finds the provider of a name.
use Rattle.std.specs.Prelude.{ℕ, ◌≡◌, List, Option, bytes_eq}
use Rattle.std.specs.HashMap.{get_by}
use Rattle.lib_bind.specs.declared.index.NameIndex.{NameIndex}
use Rattle.lib_bind.specs.declared.library.LibraryGraph.{LibraryGraph}
use Rattle.lib_bind.specs.declared.provider.Offer.{Offer}
use Rattle.lib_bind.specs.Graph.{IsWhole}
use Rattle.lib_bind.specs.Provides.{offer_of}
use Rattle.lib_bind.specs.inner.Key.{bytes_of}

-- what an index has of a name
abbrev pub known : NameIndex → List ℕ → Option Offer
known index name = get_by (λ key. bytes_eq name (bytes_of key)) index.map

-- the libraries are whole, and the index has what they provide
pub record IsIndexed (graph : LibraryGraph) (index : NameIndex) : Type 0 where
  pub whole : IsWhole graph
  pub names : (name : List ℕ) → known index name ≡ offer_of graph name
