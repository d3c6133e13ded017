-- The steps of a link that ask files.
use Rattle.std.specs.Prelude.{ℕ, ◌≡◌, List, IfOk, Result, Ok, Err}
use Rattle.file_cache.specs.Kept.{FilesSeen}
use Rattle.file_cache.specs.Runs.{Runs}
use Rattle.input_fetch.specs.Contents.{IsFetchStop, contents_of, places_of}
use Rattle.input_fetch.specs.declared.content.Content.{Content}
use Rattle.input_fetch.specs.declared.stop.FetchStop.{FetchStop}
use Rattle.lib_bind.specs.Closure.{Closes}
use Rattle.lib_bind.specs.Graph.{IsWhole}
use Rattle.lib_bind.specs.declared.bind_fault.BindFault.{BindFault}
use Rattle.lib_bind.specs.declared.library.LibraryGraph.{LibraryGraph}
use Rattle.lib_bind.specs.declared.named.NamedStub.{NamedStub}
use Rattle.link_steps.specs.declared.fault.StepFault.{StepFault}
use Rattle.command_line.specs.declared.command.Command.{Command}
use Rattle.mo_outside.specs.Answers.{Answer}
use Rattle.link_engine.specs.Stop.{bind_fault_for, fetch_fault_for}
use Rattle.link_engine.specs.declared.stop.Stop.{Stop}

-- the fault of a layer below is told as the link's
abbrev pub IsTold : {A E : Type 0} → (E → StepFault Stop) → Result A E → Result A (StepFault Stop) → Type 0
IsTold fault (Ok x) result = result ≡ Ok x
IsTold fault (Err why) result = result ≡ Err (fault why)

-- the files of a command's inputs were fetched
pub record FetchesInputs {S : Type 0} (fetches : S → List ℕ → Answer → S → Type 0) (command : Command)
    (result : Result (List Content) (StepFault Stop)) (old new : FilesSeen S) : Type 0 where
  pub end : Result (List Content) FetchStop
  pub runs : Runs fetches IsFetchStop (contents_of (places_of command)) end old new
  pub told : IsTold fetch_fault_for end result

-- what stub libraries re-export was fetched, and the libraries are these
pub record BindsLibraries {S : Type 0} (fetches : S → List ℕ → Answer → S → Type 0) (command : Command) (stubs : List NamedStub)
    (result : Result LibraryGraph (StepFault Stop)) (old new : FilesSeen S) : Type 0 where
  pub end : Result LibraryGraph BindFault
  pub closes : Closes fetches command stubs end old new
  pub whole : IfOk end IsWhole
  pub told : IsTold bind_fault_for end result
