-- What a command line is bound to: the libraries that it names, and what they re-export, breadth first.
use Rattle.std.specs.Prelude.{ℕ, zero, suc, ◌≡◌, ◌≤◌, List, length, slice_get, Option, None, Some, Result, Ok, Err}
use Rattle.command_line.specs.declared.command.Command.{Command}
use Rattle.file_cache.specs.Kept.{FilesSeen}
use Rattle.file_cache.specs.Program.{Program, ◌>>=◌, ends, file_at}
use Rattle.file_cache.specs.Runs.{Runs}
use Rattle.mo_outside.specs.Answers.{Answer}
use Rattle.lib_bind.specs.declared.bind_fault.BindFault.{BindFault}
use Rattle.lib_bind.specs.declared.bind_fault.BindFault.TheVariants.{ReadFault}
use Rattle.lib_bind.specs.declared.closing.Closing.{Closing}
use Rattle.lib_bind.specs.declared.closing.Request.{Request}
use Rattle.lib_bind.specs.declared.growing.Growing.{Growing}
use Rattle.lib_bind.specs.declared.growing.Reexport.{Reexport}
use Rattle.lib_bind.specs.declared.library.Library.{Library}
use Rattle.lib_bind.specs.declared.library.LibraryGraph.{LibraryGraph}
use Rattle.lib_bind.specs.declared.named.NamedStub.{NamedStub}
use Rattle.lib_bind.specs.declared.sought.Sought.{Sought}
use Rattle.lib_bind.specs.declared.sought.Target.{Target}
use Rattle.lib_bind.specs.Closing.{IsBindFault, begun, chosen_of, last_of, linked, read_at}
use Rattle.lib_bind.specs.Found.{found}
use Rattle.lib_bind.specs.Paths.{plain_path, stub_path}

-- WHERE A RE-EXPORTED LIBRARY IS

-- the first document of the file at a path, where there is one: the file is read where nothing is known of the path
abbrev pub sought_as : List (List ℕ × ℕ) → List ℕ → Option (Option ℕ) → Growing → Program Sought BindFault
sought_as heads path (Some document) growing = ends (Ok (record { document = document; growing = growing }))
sought_as heads path None growing = do
  file ← file_at (ReadFault path) path
  ends (read_at heads path file growing)

unfoldable pub sought : List (List ℕ × ℕ) → List ℕ → Growing → Program Sought BindFault
sought heads path growing = sought_as heads path (found path growing.known) growing

-- it is the document under the first of two paths, or else the one under the second
abbrev pub second_of : List (List ℕ × ℕ) → List ℕ → List ℕ → Option ℕ → Growing → Program Target BindFault
second_of heads first second (Some document) growing = ends (Ok (record { document = document; growing = growing }))
second_of heads first second None growing = do
  there ← sought heads second growing
  ends (last_of first there.document there.growing)

abbrev pub fetched : List (List ℕ × ℕ) → List ℕ → List ℕ → Growing → Program Target BindFault
fetched heads first second growing = do
  there ← sought heads first growing
  second_of heads first second there.document there.growing

-- the document of a re-exported library: one that is there, or else the one under the paths of its install name
abbrev pub target_of : Option (List ℕ) → List (List ℕ × ℕ) → List ℕ → Option ℕ → Growing → Program Target BindFault
target_of root heads install (Some document) growing = ends (Ok (record { document = document; growing = growing }))
target_of root heads install None growing = fetched heads (stub_path root install) (plain_path root install) growing

unfoldable pub target : Option (List ℕ) → List (List ℕ × ℕ) → Reexport → Growing → Program Target BindFault
target root heads reexport growing = target_of root heads reexport.install reexport.here growing

-- BREADTH FIRST

-- the request at a place is met
abbrev pub met : Option (List ℕ) → List (List ℕ × ℕ) → Option Request → Closing → Program Closing BindFault
met root heads None closing = ends (Ok closing)
met root heads (Some request) closing = do
  there ← target root heads request.reexport closing.growing
  ends (Ok (linked request.from closing.reached closing.work there))

unfoldable pub step : Option (List ℕ) → List (List ℕ × ℕ) → ℕ → Closing → Program Closing BindFault
step root heads at closing = met root heads (slice_get closing.work at) closing

-- so many requests are met, in their order
abbrev pub after : Option (List ℕ) → List (List ℕ × ℕ) → ℕ → Closing → Program Closing BindFault
after root heads zero closing = ends (Ok closing)
after root heads (suc count) closing = do
  closing ← after root heads count closing
  step root heads count closing

-- the libraries, and the documents after so many requests
pub record Bound : Type 0 where
  pub libraries : List Library
  pub closing : Closing

-- what the libraries of a command line and the first requests lead to
unfoldable pub bound_after : Command → List NamedStub → ℕ → Program Bound BindFault
bound_after command named count = do
  chosen ← ends (chosen_of command named)
  closing ← after command.syslibroot chosen.heads count (begun chosen.libraries chosen.heads chosen.files)
  ends (Ok (record { libraries = chosen.libraries; closing = closing }))

-- after so many requests there was a fault, or none is left
abbrev pub IsLast : ℕ → Result Bound BindFault → Type 0
IsLast count (Ok bound) = length bound.closing.work ≤ count
IsLast count (Err why) = Unit {0}

-- WHAT IS ANSWERED

-- libraries have the documents and the links that were found when no request was left
pub record IsGraphOf (count : ℕ) (graph : LibraryGraph) (bound : Bound) : Type 0 where
  pub done : length bound.closing.work ≤ count
  pub libraries : graph.libraries ≡ bound.libraries
  pub documents : graph.documents ≡ bound.closing.growing.documents
  pub links : graph.links ≡ bound.closing.growing.links

-- what was answered is that which was bound, or the same fault
abbrev pub Shows : ℕ → Result LibraryGraph BindFault → Result Bound BindFault → Type 0
Shows count (Ok graph) (Ok bound) = IsGraphOf count graph bound
Shows count (Ok graph) (Err why) = ⊥
Shows count (Err why) (Ok bound) = ⊥
Shows count (Err why) (Err other) = why ≡ other

-- After some number of requests none was left, or there was a fault: files were asked for the paths of these requests and for
-- no others, and the answer is what they lead to.
pub record Closes {S : Type 0} (fetches : S → List ℕ → Answer → S → Type 0) (command : Command) (named : List NamedStub)
    (result : Result LibraryGraph BindFault) (old new : FilesSeen S) : Type 0 where
  pub count : ℕ
  pub bound : Result Bound BindFault
  pub runs : Runs fetches IsBindFault (bound_after command named count) bound old new
  pub shows : Shows count result bound
