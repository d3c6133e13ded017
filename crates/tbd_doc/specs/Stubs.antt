-- What documents say as a stub library (TBD v4), and the first document at fault.
use Rattle.std.specs.Prelude.{ℕ, ◌+◌, ◌==◌, ◌&&◌, Bool, false, List, [], ◌∷◌, codes, unwrap_or, All, Option, Some, None, Result, Ok, Err, if◌then◌else◌}
use Rattle.std.specs.List.{flat_map, AllByRecursion}
use Rattle.std.specs.Str.{bytes_eq}
use Rattle.mo_cmd.specs.Numbers.{version_of}
use Rattle.mo_types.specs.Gives.{◌>>=◌}
use Rattle.tbd_yaml.specs.Tree.{HasTree}
use Rattle.yaml_text.specs.declared.file.YamlDoc.{YamlDoc}
use Rattle.yaml_text.specs.declared.file.YamlFile.{YamlFile}
use Rattle.tbd_doc.specs.declared.fault.StubFault.{StubFault}
use Rattle.tbd_doc.specs.declared.fault.StubFault.TheVariants.{NotTbd4, NoTarget, BadKey, OutOfMemory}
use Rattle.tbd_doc.specs.declared.stub.Export.{Export}
use Rattle.tbd_doc.specs.declared.stub.Stub.{Stub}
use Rattle.tbd_doc.specs.declared.stub.StubFile.{StubFile}
use Rattle.tbd_doc.specs.Nodes.{KeyedNode, fields_of, text_under, tree_of}
use Rattle.tbd_doc.specs.Forms.{is_well_formed, has_text}
use Rattle.tbd_doc.specs.Exports.{counted, exporting, library_names, exported_names, weak_names, exports_of, AreInOrder}

-- a fault that documents may have
abbrev pub IsStubFault : StubFault → Type 0
IsStubFault NotTbd4 = Unit {0}
IsStubFault NoTarget = Unit {0}
IsStubFault (BadKey doc) = Unit {0}
IsStubFault OutOfMemory = ⊥

abbrev pub IsWholeStub : Stub → Type 0
IsWholeStub stub = AreInOrder stub.exports

-- a stub library whose documents each have their exports in order
abbrev pub IsWhole : StubFile → Type 0
IsWhole file = All IsWholeStub file.docs

abbrev pub text_or_empty : Option (List ℕ) → List ℕ
text_or_empty None = []
text_or_empty (Some text) = text

-- a version in 16, 8 and 8 bits; where there is none, it is 1
abbrev pub version_or_one : Option (List ℕ) → ℕ
version_or_one None = 65536
version_or_one (Some text) = unwrap_or (version_of text) 0

abbrev pub is_text : Option (List ℕ) → List ℕ → Bool
is_text None text = false
is_text (Some found) text = bytes_eq found text

-- a document of TBD version 4
unfoldable pub is_tbd4 : List ℕ → List KeyedNode → Bool
is_tbd4 tag fields = bytes_eq tag (codes "!tapi-tbd") && is_text (text_under (codes "tbd-version") fields) (codes "4")

abbrev pub holds_target : List ℕ → List KeyedNode → Bool
holds_target target fields = has_text (codes "targets") fields target

-- the target that a document is for: arm64 before arm64e
unfoldable pub target_of : List KeyedNode → Option (List ℕ)
target_of fields =
    if holds_target (codes "arm64-macos") fields then Some (codes "arm64-macos")
    else if holds_target (codes "arm64e-macos") fields then Some (codes "arm64e-macos")
    else None

-- the libraries that a document re-exports for a target, and what it exports itself
unfoldable pub libraries_of : List ℕ → List KeyedNode → List (List ℕ)
libraries_of target fields = flat_map library_names (counted target (codes "reexported-libraries") fields)

unfoldable pub exports_for : List ℕ → List KeyedNode → List Export
exports_for target fields = exports_of (flat_map exported_names (exporting target fields)) (flat_map weak_names (exporting target fields))

-- what a document says for a target
unfoldable pub stub_of : List ℕ → List KeyedNode → Stub
stub_of target fields = record {
  install = text_or_empty (text_under (codes "install-name") fields);
  current = version_or_one (text_under (codes "current-version") fields);
  compatible = version_or_one (text_under (codes "compatibility-version") fields);
  reexports = libraries_of target fields;
  exports = exports_for target fields;
}

-- Of a document by its number what it says for its target, nothing where it is passed over, or its fault: the first
-- document has to have a target.
abbrev pub stub_for : ℕ → List KeyedNode → Option (List ℕ) → Result (Option Stub) StubFault
stub_for doc fields None = if doc == 0 then Err NoTarget else Ok None
stub_for doc fields (Some target) = if is_well_formed fields then Ok (Some (stub_of target fields)) else Err (BadKey doc)

unfoldable pub stub_at : ℕ → List ℕ → List KeyedNode → Result (Option Stub) StubFault
stub_at doc tag fields = if is_tbd4 tag fields then stub_for doc fields (target_of fields) else Err NotTbd4

abbrev pub with_stub : Option Stub → List Stub → List Stub
with_stub None stubs = stubs
with_stub (Some stub) stubs = stub ∷ stubs

-- the stubs of documents from a number on, or the fault of the first document that has one
abbrev pub stubs_from : ℕ → List YamlDoc → Result (List Stub) StubFault
stubs_from number [] = Ok []
stubs_from number (doc ∷ docs) =
    stub_at number doc.tag (fields_of (tree_of doc.events)) >>= λ stub.
    stubs_from (number + 1) docs >>= λ stubs. Ok (with_stub stub stubs)

-- the stub library that documents are, or the fault of the first document that has one
unfoldable pub stub_file_of : YamlFile → Result StubFile StubFault
stub_file_of file = stubs_from 0 file.docs >>= λ stubs. Ok (record { docs = stubs })

-- each document is a tree
abbrev pub HaveTrees : YamlFile → Type 0
HaveTrees file = AllByRecursion HasTree file.docs
