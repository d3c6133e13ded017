-- A provider's ordinal is the place of its library, counted from 1, and whole libraries are 240 at most.
use Rattle.std.proofs.Common.{◌≡◌, ℕ, ◌+◌, ◌<◌, ◌≤◌, List, length, Some, arith}
use Rattle.std.proofs.lemmas.Option.{slice_get_within}
use Rattle.lib_bind.specs.Graph.{IsWhole}
use Rattle.lib_bind.specs.Provides.{IsProvidedBy, provider_of}
use Rattle.lib_bind.specs.declared.library.LibraryGraph.{LibraryGraph}
use Rattle.lib_bind.specs.declared.provider.Provider.{Provider}
use Rattle.lib_bind.proofs.LawLemmas.{first_provider}

pub few_ordinals : (graph : LibraryGraph) (name : List ℕ) (provider : Provider) → IsWhole graph → provider_of graph name ≡ Some provider → provider.ordinal ≤ 240
few_ordinals graph name provider whole is =
    let by : IsProvidedBy graph name provider = first_provider graph name provider whole is in
    let place : by.at < length graph.libraries = slice_get_within graph.libraries by.at by.library by.first.there in
    let ordinal : provider.ordinal ≡ by.at + 1 = by.ordinal in
    let few : length graph.libraries ≤ 240 = whole.libraries.few in
    omega arith
