-- What a link answers, by what stands under each path: one line for each step, in the order in which refusals count.
use Rattle.std.specs.Prelude.{ℕ, List, [], ◌∷◌, Result, Ok, Err}
use Rattle.file_cache.specs.Program.{File}
use Rattle.input_fetch.specs.declared.content.Content.{Content}
use Rattle.input_read.specs.Opened.{Contents}
use Rattle.input_read.specs.Opened as opened
use Rattle.lib_bind.specs.declared.library.LibraryGraph.{LibraryGraph}
use Rattle.link_files.specs.Linked.{IsLinked}
use Rattle.link_files.specs.Names.{wanted}
use Rattle.link_steps.specs.Asking.{Reply, asks, last, tries, unless}
use Rattle.link_steps.specs.Steps.{Answer, IsToldBy, map_err, ◌>>=◌, ◌>>◌}
use Rattle.link_steps.specs.declared.fault.StepFault.{StepFault}
use Rattle.member_rounds.specs.Rounds.{loaded_of}
use Rattle.input_files.specs.declared.input.Input.{Input}
use Rattle.command_line.specs.declared.command.Command.{Command}
use Rattle.mo_types.specs.declared.loaded.Loaded.{Loaded}
use Rattle.mo_types.specs.declared.loaded.LoadedFile.{LoadedFile}
use Rattle.link_engine.specs.declared.plan.Plan.{Plan}
use Rattle.link_engine.specs.declared.stop.Stop.{Stop}
use Rattle.link_engine.specs.declared.stop.Stop.TheVariants.{Refused}
use Rattle.link_engine.specs.Bound.{BoundBy}
use Rattle.link_engine.specs.Command.{commanded, crowd_stop}
use Rattle.link_engine.specs.Fetched.{FetchedBy}
use Rattle.link_engine.specs.Input.{inputs_with}
use Rattle.link_engine.specs.Stop.{load_fault_for}

-- ---- the steps

-- what the inputs are, or the refusal of the first that has one
abbrev pub contents_with : Command → List Content → Result Contents (StepFault Stop)
contents_with command found = map_err load_fault_for (opened.contents_of (inputs_with command found))

-- the files that are loaded round by round
abbrev pub files_for : Command → List Input → LibraryGraph → Result Loaded (StepFault Stop)
files_for command inputs libs = map_err load_fault_for (loaded_of inputs libs (wanted command))

-- the image to which they link, or its refusal
abbrev pub IsImage : Command → LibraryGraph → List LoadedFile → Answer Stop (List ℕ)
IsImage command libs files (Ok image) = IsLinked command libs files (Ok image)
IsImage command libs files (Err (Refused why)) = IsLinked command libs files (Err why)
IsImage command libs files (Err _) = ⊥

-- what is written: the image, and no line
abbrev pub plan_of : Command → List ℕ → Plan
plan_of command image = record { files = (command.output, image) ∷ []; line = [] }

-- ---- all steps

-- What is to be written for the words, or the first stop in this order; and the paths that were tried, in their order, after
-- those before.
abbrev pub plan_by : (List ℕ → File) → List (List ℕ) → Reply (List (List ℕ)) Stop Plan
plan_by look words = do
  command ← tries (IsToldBy (commanded words))
  unless (crowd_stop command)
  found ← asks (FetchedBy look command)
  contents ← tries (IsToldBy (contents_with command found))
  libs ← asks (BoundBy look command contents.stubs)
  loaded ← tries (IsToldBy (files_for command contents.inputs libs))
  image ← tries (IsImage command libs loaded.files)
  last (Ok (plan_of command image))

-- the verdict, after these paths were tried
unfoldable pub IsVerdictAfter : List (List ℕ) → (List ℕ → File) → Result Plan Stop → List (List ℕ) → Type 0
IsVerdictAfter words look given tried = plan_by look words [] given tried

-- the verdict on words, where this stands under each path; there is one at most
abbrev pub IsVerdict : List (List ℕ) → (List ℕ → File) → Result Plan Stop → Type 0
IsVerdict words look given = (tried : List (List ℕ)) × IsVerdictAfter words look given tried
