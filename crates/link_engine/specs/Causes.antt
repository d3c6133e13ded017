-- Why there is no plan: the cause of each stop, in the order of the steps. It stands, and none before it does.
use Rattle.std.specs.Prelude.{ℕ, ◌≡◌, ◌+◌, ◌++◌, ◌≤◌, ◌^◌, List, [], length, Some, Result, Ok, Err}
use Rattle.std.specs.List.{range_with_len}
use Rattle.std.specs.Result.{result_err}
use Rattle.file_cache.specs.Program.{File}
use Rattle.input_fetch.specs.Contents.{contents_of, places_of}
use Rattle.input_fetch.specs.declared.content.Content.{Content}
use Rattle.input_fetch.specs.declared.stop.FetchStop.{FetchStop}
use Rattle.input_fetch.specs.declared.stop.FetchStop.TheVariants as fetch
use Rattle.input_read.specs.Opened.{Contents}
use Rattle.input_read.specs.Opened as opened
use Rattle.input_read.specs.Opening.{opening_of}
use Rattle.lib_bind.specs.Closure.{bound_after}
use Rattle.lib_bind.specs.declared.bind_fault.BindFault.{BindFault}
use Rattle.lib_bind.specs.declared.library.LibraryGraph.{LibraryGraph}
use Rattle.lib_bind.specs.declared.named.NamedStub.{NamedStub}
use Rattle.link_files.specs.Causes.{LinkCause}
use Rattle.link_files.specs.Names.{wanted}
use Rattle.link_steps.specs.Asking.{Cause, asked, never, refuses, stands}
use Rattle.link_steps.specs.Steps.{◌>>=◌, ◌>>◌}
use Rattle.link_steps.specs.declared.fault.StepFault.TheVariants as fault
use Rattle.input_files.specs.Files.{all_ids}
use Rattle.member_rounds.specs.Rounds.{loaded_of, round_fault}
use Rattle.input_files.specs.declared.fault.LoadFault.TheVariants as rounds
use Rattle.input_files.specs.declared.input.Input.{Input}
use Rattle.mo_cmd.specs.Command.{command_by}
use Rattle.mo_cmd.specs.declared.usage_fault.UsageFault.TheVariants as usage
use Rattle.command_line.specs.declared.command.Command.{Command}
use Rattle.mo_types.specs.Scan.{first_some}
use Rattle.mo_types.specs.declared.answer.Refusal.TheVariants.{Limit, Missing}
use Rattle.mo_types.specs.declared.cause.Which.TheVariants.{Inputs}
use Rattle.mo_types.specs.declared.loaded.Loaded.{Loaded}
use Rattle.mo_types.specs.declared.loaded.LoadedFile.{LoadedFile}
use Rattle.link_engine.specs.Bound.{BoundBy}
use Rattle.link_engine.specs.Command.{linked_rows}
use Rattle.link_engine.specs.Fetched.{FetchedBy}
use Rattle.link_engine.specs.Input.{inputs_with}
use Rattle.link_engine.specs.Stop.{bind_fault_for}
use Rattle.link_engine.specs.Verdict.{IsImage}
use Rattle.link_engine.specs.declared.stop.Stop.{Stop}
use Rattle.link_engine.specs.declared.stop.Stop.TheVariants.{ReadFault, Refused, Usage}

-- the words aren't a command: the least word that has a fault has this one
abbrev pub IsMisused : List (List ℕ) → Stop → Type 0
IsMisused words (Usage word rule) = command_by linked_rows words ≡ Err (usage.At word rule)
IsMisused words _ = ⊥

-- they are this command
abbrev pub IsCommand : List (List ℕ) → Command → Type 0
IsCommand words command = command_by linked_rows words ≡ Ok command

-- it has 2^16 inputs or more
abbrev pub IsCrowded : Command → Stop → Type 0
IsCrowded command why = (2 ^ 16 ≤ length command.inputs) × (why ≡ Refused (Limit Inputs))

-- a path of the first of its inputs that isn't found couldn't be read, or none of that input's paths is there and this is the
-- first of them
abbrev pub IsAbsentBy : Result (List Content) FetchStop → Stop → Type 0
IsAbsentBy end (ReadFault path) = end ≡ Err (fetch.ReadFault path)
IsAbsentBy end (Refused (Missing path)) = end ≡ Err (fetch.Missing path)
IsAbsentBy end _ = ⊥

pub record IsAbsent (look : List ℕ → File) (command : Command) (old : List (List ℕ)) (why : Stop) (new : List (List ℕ)) : Type 0 where
  pub ends : IsAbsentBy (contents_of (places_of command) look).end why
  pub tries : new ≡ old ++ (contents_of (places_of command) look).tried

-- its inputs are there
abbrev pub AreThere : (List ℕ → File) → Command → List Content → List (List ℕ) → List (List ℕ) → Type 0
AreThere look command found old new = FetchedBy look command old (Ok found) new

-- the first of them that can't be read has this fault
abbrev pub IsFaulty : Command → List Content → Stop → Type 0
IsFaulty command found (Refused why) = first_some (λ input. result_err (opening_of input)) (inputs_with command found) ≡ Some (rounds.Refused why)
IsFaulty command found _ = ⊥

-- they could be read
abbrev pub AreOpen : Command → List Content → Contents → Type 0
AreOpen command found contents = opened.contents_of (inputs_with command found) ≡ Ok contents

-- there are too many libraries, or what they re-export isn't there or can't be read, after these paths
pub record IsUnbound (look : List ℕ → File) (command : Command) (stubs : List NamedStub)
    (old : List (List ℕ)) (why : Stop) (new : List (List ℕ)) : Type 0 where
  pub count : ℕ
  pub end : BindFault
  pub ends : (bound_after command stubs count look).end ≡ Err end
  pub is : bind_fault_for end ≡ fault.Stop why
  pub tries : new ≡ old ++ (bound_after command stubs count look).tried

-- the libraries are these, after these paths
abbrev pub AreBound : (List ℕ → File) → Command → List NamedStub → LibraryGraph → List (List ℕ) → List (List ℕ) → Type 0
AreBound look command stubs libs old new = BoundBy look command stubs old (Ok libs) new

-- the first round of which a member can't be read, or that has too many names, has this fault
abbrev pub IsUnloaded : Command → List Input → LibraryGraph → Stop → Type 0
IsUnloaded command inputs libs (Refused why) =
    first_some (round_fault inputs libs (wanted command)) (range_with_len 0 (length (all_ids inputs) + 1)) ≡ Some (rounds.Refused why)
IsUnloaded command inputs libs _ = ⊥

-- these files are loaded
abbrev pub AreLoaded : Command → List Input → LibraryGraph → Loaded → Type 0
AreLoaded command inputs libs loaded = loaded_of inputs libs (wanted command) ≡ Ok loaded

-- what the loaded files are is refused
abbrev pub IsUnlinked : Command → LibraryGraph → List LoadedFile → Stop → Type 0
IsUnlinked command libs files (Refused why) = LinkCause command libs files why
IsUnlinked command libs files _ = ⊥

-- they link to this image
abbrev pub IsLinkedTo : Command → LibraryGraph → List LoadedFile → List ℕ → Type 0
IsLinkedTo command libs files image = IsImage command libs files (Ok image)

-- the cause of each stop, where this stands under each path, and the paths that are tried before it
abbrev pub causes : (List ℕ → File) → List (List ℕ) → Cause (List (List ℕ)) Stop
causes look words = do
  command ← stands (IsMisused words) (IsCommand words)
  refuses (IsCrowded command)
  found ← asked (IsAbsent look command) (AreThere look command)
  contents ← stands (IsFaulty command found) (AreOpen command found)
  libs ← asked (IsUnbound look command contents.stubs) (AreBound look command contents.stubs)
  loaded ← stands (IsUnloaded command contents.inputs libs) (AreLoaded command contents.inputs libs)
  image ← stands (IsUnlinked command libs loaded.files) (IsLinkedTo command libs loaded.files)
  never

abbrev pub StopCause : List (List ℕ) → (List ℕ → File) → Stop → List (List ℕ) → Type 0
StopCause words look why tried = causes look words [] why tried
