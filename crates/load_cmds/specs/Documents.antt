-- The document of a library, which has its install name and versions.
use Rattle.std.specs.Prelude.{[], get_or}
use Rattle.lib_bind.specs.declared.library.Library.{Library}
use Rattle.lib_bind.specs.declared.library.LibraryGraph.{LibraryGraph}
use Rattle.tbd_doc.specs.declared.stub.Stub.{Stub}

-- in place of a document that isn't there
abbrev pub no_document : Stub
no_document = record { install = []; current = 0; compatible = 0; reexports = []; exports = [] }

abbrev pub document_of : LibraryGraph → Library → Stub
document_of libs library = get_or libs.documents library.document no_document
