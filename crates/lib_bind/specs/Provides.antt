-- Which library provides a name.
use Rattle.std.specs.Prelude.{ℕ, ◌≡◌, ◌+◌, ◌<◌, ◌↔◌, ◌&&◌, Bool, IsTrue, List, [], get_or, slice_get, zip, Option, None, Some, option_map, bytes_eq, if◌then◌else◌}
use Rattle.std.specs.List.{list_any}
use Rattle.mo_types.specs.Scan.{first_some}
use Rattle.tbd_doc.specs.declared.stub.Stub.{Stub}
use Rattle.lib_bind.specs.declared.library.Library.{Library}
use Rattle.lib_bind.specs.declared.library.LibraryGraph.{LibraryGraph}
use Rattle.lib_bind.specs.declared.provider.Offer.{Offer}
use Rattle.lib_bind.specs.declared.provider.Provider.{Provider}
use Rattle.lib_bind.specs.Graph.{Reaches}

-- what stands where there is no document
abbrev pub no_document : Stub
no_document = record { install = []; current = 0; compatible = 0; reexports = []; exports = [] }

-- a document exports the name
unfoldable pub exports : List ℕ → Stub → Bool
exports name document = list_any (λ export. bytes_eq name export.name) document.exports

-- and lists it under weak-symbols
unfoldable pub weakens : List ℕ → Stub → Bool
weakens name document = list_any (λ export. bytes_eq name export.name && export.weak) document.exports

-- the document of a number does
abbrev pub exports_at : List Stub → List ℕ → ℕ → Bool
exports_at documents name at = exports name (get_or documents at no_document)

abbrev pub weakens_at : List Stub → List ℕ → ℕ → Bool
weakens_at documents name at = weakens name (get_or documents at no_document)

-- what a library is to a name, by the documents that it reaches
unfoldable pub offer_by : List Stub → List ℕ → Library × List ℕ → Option Offer
offer_by documents name (library, reached) =
    if list_any (exports_at documents name) reached
    then Some (record { library = library; weak = list_any (weakens_at documents name) reached })
    else None

-- the first library that provides a name
unfoldable pub offer_of : LibraryGraph → List ℕ → Option Offer
offer_of graph name = first_some (offer_by graph.documents name) (zip graph.libraries graph.reach)

-- how the image is bound to it
abbrev pub provider_by : Offer → Provider
provider_by offer = record { ordinal = offer.library.ordinal; weak = offer.weak; weak_library = offer.library.weak }

abbrev pub provider_of : LibraryGraph → List ℕ → Option Provider
provider_of graph name = option_map provider_by (offer_of graph name)

-- a path of links leads from the library's document to one that passes the test
pub record Finds (graph : LibraryGraph) (test : ℕ → Bool) (library : Library) : Type 0 where
  pub document : ℕ
  pub reached : Reaches graph.links library.document document
  pub passes : IsTrue (test document)

-- to one that exports the name, and to one that lists it under weak-symbols
abbrev pub Provides : LibraryGraph → List ℕ → Library → Type 0
Provides graph name library = Finds graph (exports_at graph.documents name) library

abbrev pub Weakens : LibraryGraph → List ℕ → Library → Type 0
Weakens graph name library = Finds graph (weakens_at graph.documents name) library

-- the library at a place is the first one that provides the name
pub record IsFirst (graph : LibraryGraph) (name : List ℕ) (at : ℕ) (library : Library) : Type 0 where
  pub there : slice_get graph.libraries at ≡ Some library
  pub provides : Provides graph name library
  pub first : (before : ℕ) (other : Library) → before < at → slice_get graph.libraries before ≡ Some other → ¬ Provides graph name other

-- A provider is the first library that provides the name: by its ordinal, which counts the libraries that the command line
-- names, whichever document has the name.
pub record IsProvidedBy (graph : LibraryGraph) (name : List ℕ) (provider : Provider) : Type 0 where
  pub at : ℕ
  pub library : Library
  pub first : IsFirst graph name at library
  pub ordinal : provider.ordinal ≡ at + 1
  pub weak : IsTrue provider.weak ↔ Weakens graph name library
  pub weak_library : provider.weak_library ≡ library.weak
