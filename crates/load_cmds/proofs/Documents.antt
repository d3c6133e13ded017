-- The documents of libraries.
use Rattle.std.proofs.Common.{◌<◌, length, get_or}
use Rattle.std.specs.Prelude.{All}
use Rattle.std.proofs.lemmas.Option.{slice_get-get_or}
use Rattle.lib_bind.specs.Graph.{IsWhole}
use Rattle.lib_bind.specs.declared.library.Library.{Library}
use Rattle.lib_bind.specs.declared.library.LibraryGraph.{LibraryGraph}

-- whole libraries have theirs
pub have_documents : (libs : LibraryGraph) → IsWhole libs → All (λ (library : Library). library.document < length libs.documents) libs.libraries
have_documents libs whole k d low = whole.libraries.within k (get_or libs.libraries k d) (slice_get-get_or libs.libraries k d low)
