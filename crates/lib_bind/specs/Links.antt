-- Where the libraries that a document re-exports lead to.
use Rattle.std.specs.Prelude.{ℕ, ◌≡◌, ◌⊎◌, ◌++◌, List, [], length, get_or, slice_get, map, Option, None, Some, Ok}
use Rattle.std.specs.List.{AllZip}
use Rattle.file_cache.specs.Program.{File, There, Absent}
use Rattle.tbd_doc.specs.declared.stub.Stub.{Stub}
use Rattle.tbd_doc.specs.declared.stub.StubFile.{StubFile}
use Rattle.lib_bind.specs.Found.{found}
use Rattle.lib_bind.specs.Graph.{linked}
use Rattle.lib_bind.specs.Paths.{plain_path, stub_path}
use Rattle.lib_bind.specs.Provides.{no_document}
use Rattle.lib_bind.specs.Reexported.{reexported}
use Rattle.lib_bind.specs.declared.growing.Growing.{Growing}
use Rattle.lib_bind.specs.declared.growing.Reexport.{Reexport}

-- the document is the first one of the file at a path, or where no file is there of the one at another path
abbrev pub IsFirstAt : List (List ℕ × Option ℕ) → List ℕ → List ℕ → ℕ → Type 0
IsFirstAt known first second to = (found first known ≡ Some (Some to)) ⊎ ((found first known ≡ Some None) × (found second known ≡ Some (Some to)))

-- a re-exported library leads to the document that is there, or else to that of the file at its paths
abbrev pub LeadsBy : Option (List ℕ) → List (List ℕ × Option ℕ) → List ℕ → Option ℕ → ℕ → Type 0
LeadsBy root known install (Some document) to = document ≡ to
LeadsBy root known install None to = IsFirstAt known (stub_path root install) (plain_path root install) to

abbrev pub LeadsTo : Option (List ℕ) → List (List ℕ × Option ℕ) → Reexport → ℕ → Type 0
LeadsTo root known reexport to = LeadsBy root known reexport.install reexport.here to

-- the links of a document are what the libraries that it re-exports lead to, one for each, in the order of its text
pub record HasLinks (root : Option (List ℕ)) (growing : Growing) (document : ℕ) : Type 0 where
  pub names : map (λ reexport. reexport.install) (get_or growing.reexports document []) ≡ (get_or growing.documents document no_document).reexports
  pub leads : AllZip (LeadsTo root growing.known) (get_or growing.reexports document []) (linked growing.links document)

-- the documents of the file that is there under a path stand together, the first one at a number
pub record IsFileAt (look : List ℕ → File) (documents : List Stub) (path : List ℕ) (first : ℕ) : Type 0 where
  pub bytes : List ℕ
  pub there : look path ≡ There bytes
  pub file : StubFile
  pub read : reexported bytes ≡ Ok file
  pub before : List Stub
  pub after : List Stub
  pub stand : documents ≡ before ++ file.docs ++ after
  pub place : length before ≡ first

-- what is known of a path is what stands there: no file, or one whose first document has a number
abbrev pub AnswerSays : (List ℕ → File) → List Stub → List ℕ → Option ℕ → Type 0
AnswerSays look documents path None = look path ≡ Absent
AnswerSays look documents path (Some first) = IsFileAt look documents path first

-- the document of a number has the install name
pub record HasName (documents : List Stub) (number : ℕ) (install : List ℕ) : Type 0 where
  pub document : Stub
  pub there : slice_get documents number ≡ Some document
  pub named : document.install ≡ install
