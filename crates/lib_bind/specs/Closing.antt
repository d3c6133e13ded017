-- The documents of libraries, of which some are reached, and the libraries that a command line names.
use Rattle.std.specs.Prelude.{ℕ, ◌+◌, ◌++◌, List, [], ◌∷◌, map, length, get_or, set, false, bytes_eq, nat_eq, nat_le, Option, None, Some, Result, Ok, Err, if◌then◌else◌}
use Rattle.std.specs.List.{list_any}
use Rattle.command_line.specs.declared.command.Command.{Command}
use Rattle.command_line.specs.declared.command.CommandInput.{CommandInput}
use Rattle.command_line.specs.declared.command.InputForm.TheVariants.{Path}
use Rattle.mo_types.specs.Gives.{◌>>=◌}
use Rattle.mo_types.specs.Scan.{option_or_else}
use Rattle.mo_types.specs.declared.answer.Refusal.TheVariants as refusal
use Rattle.mo_types.specs.declared.cause.Which.TheVariants.{Libraries}
use Rattle.mo_types.specs.declared.object_fault.ObjFault.{ObjFault}
use Rattle.mo_types.specs.declared.object_fault.ObjFault.TheVariants.{Malformed, Unsupported, Limit, OutOfMemory}
use Rattle.tbd_doc.specs.declared.stub.Stub.{Stub}
use Rattle.tbd_doc.specs.declared.stub.StubFile.{StubFile}
use Rattle.lib_bind.specs.declared.bind_fault.BindFault.{BindFault}
use Rattle.lib_bind.specs.declared.bind_fault.BindFault.TheVariants as fault
use Rattle.lib_bind.specs.declared.choosing.Chosen.{Chosen}
use Rattle.lib_bind.specs.declared.closing.Closing.{Closing}
use Rattle.lib_bind.specs.declared.closing.Request.{Request}
use Rattle.lib_bind.specs.declared.growing.Growing.{Growing}
use Rattle.lib_bind.specs.declared.growing.Reexport.{Reexport}
use Rattle.lib_bind.specs.declared.library.Library.{Library}
use Rattle.lib_bind.specs.declared.named.NamedStub.{NamedStub}
use Rattle.lib_bind.specs.declared.sought.Sought.{Sought}
use Rattle.lib_bind.specs.declared.sought.Target.{Target}
use Rattle.lib_bind.specs.Found.{found}
use Rattle.lib_bind.specs.Provides.{no_document}
use Rattle.lib_bind.specs.Reexported.{reexported}

-- DOCUMENTS THAT ARE THERE

abbrev pub nothing : Growing
nothing = record { documents = []; reexports = []; links = []; known = [] }

-- the number of the first document of a file that has the install name, where the file's first one has a number
abbrev pub place_in : ℕ → List Stub → List ℕ → Option ℕ
place_in first [] install = None
place_in first (stub ∷ stubs) install = if bytes_eq install stub.install then Some first else place_in (first + 1) stubs install

-- a re-exported library is looked for in the same file, and then among the first documents of the named libraries
abbrev pub reexport_by : Option ℕ → Option ℕ → List ℕ → Reexport
reexport_by near head install = record { install = install; here = option_or_else near head }

abbrev pub reexports_of : List (List ℕ × ℕ) → ℕ → List Stub → Stub → List Reexport
reexports_of heads first stubs stub =
    map (λ install. reexport_by (place_in first stubs install) (found install heads) install) stub.reexports

-- the documents with those of a file
unfoldable pub with_file : List (List ℕ × ℕ) → List Stub → Growing → Growing
with_file heads stubs growing = record {
  documents = growing.documents ++ stubs;
  reexports = growing.reexports ++ map (reexports_of heads (length growing.documents) stubs) stubs;
  links = growing.links ++ map (λ stub. []) stubs;
  known = growing.known;
}

-- what stands under a path is known: the first document of the file there, or that there is no file
abbrev pub with_known : List ℕ → Option ℕ → Growing → Growing
with_known path document growing = record growing { known = growing.known ++ (path, document) ∷ [] }

-- WHAT IS READ OF A FILE

-- a fault that the libraries of a command line may have
abbrev pub IsBindFault : BindFault → Type 0
IsBindFault (fault.ReadFault path) = Unit {0}
IsBindFault (fault.Refused refusal) = Unit {0}
IsBindFault fault.OutOfMemory = ⊥

-- what tells the fault of a file
abbrev pub fault_of : List ℕ → ObjFault → BindFault
fault_of path (Malformed place rule) = fault.Refused (refusal.Malformed path place rule)
fault_of path (Unsupported feature) = fault.Refused (refusal.Unsupported path feature)
fault_of path (Limit which) = fault.Refused (refusal.Limit which)
fault_of path OutOfMemory = fault.OutOfMemory

-- the documents of a file come last
abbrev pub added : List (List ℕ × ℕ) → List ℕ → Result StubFile ObjFault → Growing → Result Sought BindFault
added heads path (Ok stubs) growing = Ok (record {
  document = Some (length growing.documents);
  growing = with_known path (Some (length growing.documents)) (with_file heads stubs.docs growing);
})
added heads path (Err why) growing = Err (fault_of path why)

-- the file at a path is read, where there is one
abbrev pub read_at : List (List ℕ × ℕ) → List ℕ → Option (List ℕ) → Growing → Result Sought BindFault
read_at heads path (Some bytes) growing = added heads path (reexported bytes) growing
read_at heads path None growing = Ok (record { document = None; growing = with_known path None growing })

-- a library with no document under either of its paths is missing, and the first path is told
abbrev pub last_of : List ℕ → Option ℕ → Growing → Result Target BindFault
last_of first (Some document) growing = Ok (record { document = document; growing = growing })
last_of first None growing = Err (fault.Refused (refusal.Missing first))

-- WHAT IS REACHED

-- what a document re-exports is looked for after all that is waited for
abbrev pub requests_of : ℕ → List Reexport → List Request
requests_of from reexports = map (λ reexport. record { from = from; reexport = reexport }) reexports

-- a document is reached, the first time it is
unfoldable pub reach : ℕ → Closing → Closing
reach to closing =
    if list_any (nat_eq to) closing.reached then closing
    else record {
      growing = closing.growing;
      reached = closing.reached ++ to ∷ [];
      work = closing.work ++ requests_of to (get_or closing.growing.reexports to []);
    }

-- a document is found to be re-exported by another one
abbrev pub with_link : ℕ → ℕ → Growing → Growing
with_link from to growing = record growing { links = set growing.links from (get_or growing.links from [] ++ to ∷ []) }

abbrev pub linked : ℕ → List ℕ → List Request → Target → Closing
linked from reached work there =
    reach there.document (record { growing = with_link from there.document there.growing; reached = reached; work = work })

-- THE NAMED LIBRARIES

abbrev pub install_of : NamedStub → List ℕ
install_of named = (get_or named.file.docs 0 no_document).install

-- what stands where there is no input
abbrev pub library_of : CommandInput → NamedStub → Chosen → Library
library_of input named chosen = record {
  position = named.position;
  ordinal = length chosen.libraries + 1;
  weak = input.weak;
  reexport = input.reexport;
  document = chosen.documents;
}

-- one library more
abbrev pub with_library : CommandInput → NamedStub → Chosen → Chosen
with_library input named chosen = record {
  libraries = chosen.libraries ++ library_of input named chosen ∷ [];
  heads = chosen.heads ++ (install_of named, chosen.documents) ∷ [];
  files = chosen.files ++ named.file ∷ [];
  documents = chosen.documents + length named.file.docs;
}

abbrev pub no_input : CommandInput
no_input = record { form = Path; value = []; weak = false; reexport = false; forced = false }

-- The next library of a command line: it is dropped where an earlier one has its install name, and the 241st one that
-- isn't is one too many.
abbrev pub choose_as : Command → NamedStub → Option ℕ → Chosen → Result Chosen BindFault
choose_as command named (Some document) chosen = Ok chosen
choose_as command named None chosen =
    if nat_le 240 (length chosen.libraries) then Err (fault.Refused (refusal.Limit Libraries))
    else Ok (with_library (get_or command.inputs named.position no_input) named chosen)

unfoldable pub choose : Command → NamedStub → Chosen → Result Chosen BindFault
choose command named chosen = choose_as command named (found (install_of named) chosen.heads) chosen

abbrev pub choose_all : Command → List NamedStub → Chosen → Result Chosen BindFault
choose_all command [] chosen = Ok chosen
choose_all command (named ∷ rest) chosen = choose command named chosen >>= choose_all command rest

-- the libraries that aren't dropped, with the first documents by their install names
abbrev pub chosen_of : Command → List NamedStub → Result Chosen BindFault
chosen_of command named = choose_all command named (record { libraries = []; heads = []; files = []; documents = 0 })

-- the documents of all their files
abbrev pub with_files : List (List ℕ × ℕ) → List StubFile → Growing → Growing
with_files heads [] growing = growing
with_files heads (file ∷ files) growing = with_files heads files (with_file heads file.docs growing)

-- their own documents are reached, in their order
abbrev pub reach_all : List Library → Closing → Closing
reach_all [] closing = closing
reach_all (library ∷ libraries) closing = reach_all libraries (reach library.document closing)

abbrev pub begun : List Library → List (List ℕ × ℕ) → List StubFile → Closing
begun libraries heads files = reach_all libraries (record { growing = with_files heads files nothing; reached = []; work = [] })
