-- The numbers that are kept while libraries are fetched are those of documents.
use Rattle.std.specs.Prelude.{ℕ, ◌≡◌, ◌+◌, ◌<◌, ◌≤◌, List, [], ◌∷◌, length, All, Contains, Option, Some, IfSome}
use Rattle.tbd_doc.specs.declared.stub.StubFile.{StubFile}
use Rattle.lib_bind.specs.Graph.{linked}
use Rattle.lib_bind.specs.declared.closing.Closing.{Closing}
use Rattle.lib_bind.specs.declared.closing.Request.{Request}
use Rattle.lib_bind.specs.declared.growing.Growing.{Growing}
use Rattle.lib_bind.specs.declared.sought.Sought.{Sought}
use Rattle.lib_bind.specs.declared.sought.Target.{Target}

-- if there is a document, it is one of so many
abbrev pub IsOf : ℕ → Option ℕ → Type 0
IsOf n document = IfSome document (λ d. d < n)

-- install names with documents, each of which is one of so many
abbrev pub AreHeads : ℕ → List (List ℕ × ℕ) → Type 0
AreHeads n heads = All (λ pair. pair.1 < n) heads

-- how many documents some files have
unfoldable pub total : List StubFile → ℕ
total [] = 0
total (file ∷ files) = length file.docs + total files

-- Each document has its links and what it re-exports, and the documents that are known are among so many.
pub record IsGrown (n : ℕ) (growing : Growing) : Type 0 where
  pub links : length growing.links ≡ length growing.documents
  pub leads : (from to : ℕ) → Contains (linked growing.links from) to → to < n
  pub reexports : length growing.reexports ≡ length growing.documents
  pub here : All (λ all. All (λ reexport. IsOf n reexport.here) all) growing.reexports
  pub known : All (λ pair. IsOf n pair.1) growing.known

-- a request of one of so many documents
pub record IsRequestOf (n : ℕ) (request : Request) : Type 0 where
  pub from : request.from < n
  pub here : IsOf n request.reexport.here

-- there are as many documents, or more, and all numbers are those of documents
pub record IsHeld (n : ℕ) (heads : List (List ℕ × ℕ)) (closing : Closing) : Type 0 where
  pub heads_are : AreHeads n heads
  pub more : n ≤ length closing.growing.documents
  pub grown : IsGrown (length closing.growing.documents) closing.growing
  pub work : All (IsRequestOf (length closing.growing.documents)) closing.work

-- a document that was found, where there is one, and the documents, none of which was lost
pub record IsFound (growing : Growing) (document : Option ℕ) (new : Growing) : Type 0 where
  pub grown : IsGrown (length new.documents) new
  pub more : length growing.documents ≤ length new.documents
  pub there : IsOf (length new.documents) document

abbrev pub Finds : Growing → Sought → Type 0
Finds growing there = IsFound growing there.document there.growing

abbrev pub Meets : Growing → Target → Type 0
Meets growing there = IsFound growing (Some there.document) there.growing

-- the first documents of libraries are there, and all numbers are those of documents that are
pub record AreThere (heads : List (List ℕ × ℕ)) (growing : Growing) : Type 0 where
  pub heads_are : AreHeads (length growing.documents) heads
  pub grown : IsGrown (length growing.documents) growing
