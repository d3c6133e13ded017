-- Words have a verdict, whatever files told.
use Rattle.std.proofs.Common.{◌≡◌, ℕ, ◌++◌, true, List, [], length, Result, Ok, Err, refl, sym, subst}
use Rattle.file_cache.specs.Program.{File}
use Rattle.file_cache.specs.Runs.{AreOfBytes, file_told}
use Rattle.input_fetch.specs.Contents.{contents_of, places_of}
use Rattle.input_fetch.specs.declared.content.Content.{Content}
use Rattle.input_files.specs.Sources.{AreInOrder}
use Rattle.input_read.specs.Opened.{Contents}
use Rattle.input_read.specs.Opened as opened
use Rattle.input_read.proofs.OpenedLemmas.{keeps_order, stubs_named}
use Rattle.lib_bind.specs.Closure.{Bound, IsLast, Shows, bound_after}
use Rattle.lib_bind.specs.Named.{are_named}
use Rattle.lib_bind.specs.declared.bind_fault.BindFault.{BindFault}
use Rattle.lib_bind.specs.declared.library.LibraryGraph.{LibraryGraph}
use Rattle.lib_bind.specs.declared.named.NamedStub.{NamedStub}
use Rattle.lib_bind.proofs.ExistLemmas.{libraries_exist}
use Rattle.lib_bind.proofs.FiniteLemmas.{finite_last}
use Rattle.link_files.specs.Linked.{AreLinkable, IsLinked}
use Rattle.link_files.specs.Names.{wanted}
use Rattle.link_files.proofs.ExistLemmas.{link_exists}
use Rattle.link_steps.specs.Asking.{IsSome}
use Rattle.link_steps.specs.Steps.{IsSome as IsSomeAnswer, map_err}
use Rattle.link_steps.proofs.AskLemmas.{asks_some, last_some, told_some, tries_some, unless_some}
use Rattle.link_steps.proofs.StepLemmas.{mapped_value, told_there, told_value}
use Rattle.member_rounds.specs.Rounds.{loaded_of}
use Rattle.member_rounds.proofs.RiseLemmas.{loaded_rises}
use Rattle.command_line.specs.declared.command.Command.{Command}
use Rattle.mo_outside.specs.Answers.{Exchange}
use Rattle.mo_types.specs.declared.answer.Refusal.{Refusal}
use Rattle.mo_types.specs.declared.loaded.Loaded.{Loaded}
use Rattle.mo_types.specs.declared.loaded.LoadedFile.{LoadedFile}
use Rattle.link_engine.specs.Bound.{BoundBy}
use Rattle.link_engine.specs.Command.{commanded, crowd_stop}
use Rattle.link_engine.specs.Fetched.{FetchedBy}
use Rattle.link_engine.specs.Input.{inputs_with}
use Rattle.link_engine.specs.Lines.{after_command, after_few, after_inputs, after_libraries, from_libraries}
use Rattle.link_engine.specs.Stop.{bind_fault_for, fetch_fault_for, load_fault_for}
use Rattle.link_engine.specs.Verdict.{IsImage, IsVerdict, IsVerdictAfter, contents_with, files_for, plan_by, plan_of}
use Rattle.link_engine.specs.declared.plan.Plan.{Plan}
use Rattle.link_engine.specs.declared.stop.Stop.{Stop}
use Rattle.link_engine.specs.declared.stop.Stop.TheVariants.{Refused}
use Rattle.link_engine.proofs.FetchedLemmas.{fetched_bytes, inputs_bytes, map_bytes}
use Rattle.link_engine.proofs.InputLemmas.{inputs_rise, made_below}
use Rattle.link_engine.proofs.LoadedLemmas.{loaded_bytes, loaded_low, loaded_unwinds, loaded_whole}
use Rattle.link_engine.proofs.PartLemmas.{contents_bytes}
use Rattle.link_engine.proofs.RealLemmas.{inputs_end, libraries_end, opening_ends, rounds_end, words_end}

-- ---- the steps that ask

fetched_some : (look : List ℕ → File) (command : Command) → IsSome (FetchedBy look command)
fetched_some look command old =
    let fetched = contents_of (places_of command) look in
    let is = told_there (map_err fetch_fault_for fetched.end) (inputs_end look command) in
    (is.0, old ++ fetched.tried, record { told = is.1; tries = refl })

bound_some : (told : List Exchange) (command : Command) (stubs : List NamedStub) → are_named (length command.inputs) 0 stubs ≡ true → IsSome (BoundBy (file_told told) command stubs)
bound_some told command stubs named old = let last = finite_last told command stubs in by last.0 (bound_after command stubs last.0 look).end refl last.1
  where
    look : List ℕ → File
    look = file_told told

    by : (count : ℕ) (end : Result Bound BindFault) → (bound_after command stubs count look).end ≡ end → IsLast count end
        → (given : Result LibraryGraph Stop) × (new : List (List ℕ)) × BoundBy look command stubs old given new
    by count (Ok bound) e last =
        let libs = libraries_exist look command stubs count bound named e last in (
          Ok libs.0,
          old ++ (bound_after command stubs count look).tried,
          record {
            count = count;
            last = subst (IsLast count) (sym e) last;
            bound = Ok libs.0;
            is = subst (Shows count (Ok libs.0)) (sym e) libs.1;
            whole = libs.2;
            told = refl;
            tries = refl;
          },
        )
    by count (Err why) e last =
        let is = told_there {A = LibraryGraph} (map_err bind_fault_for (Err why)) (libraries_end {A = LibraryGraph} look command stubs count why e) in (
          is.0,
          old ++ (bound_after command stubs count look).tried,
          record {
            count = count;
            last = subst (IsLast count) (sym e) last;
            bound = Err why;
            is = subst (Shows count (Err why)) (sym e) refl;
            whole = tt;
            told = is.1;
            tries = refl;
          },
        )

-- ---- what the inputs are

module _ (told : List Exchange) (bytes : AreOfBytes told) (command : Command) (found : List Content) (before then : List (List ℕ))
    (fetched : FetchedBy (file_told told) command before (Ok found) then) (contents : Contents) (are : contents_with command found ≡ Ok contents) where
  opened_are : opened.contents_of (inputs_with command found) ≡ Ok contents
  opened_are = (mapped_value load_fault_for (opened.contents_of (inputs_with command found)) contents).0 are

  order : AreInOrder contents.inputs
  order = keeps_order (inputs_with command found) contents (inputs_rise command found) opened_are

  named : are_named (length command.inputs) 0 contents.stubs ≡ true
  named =
      stubs_named (inputs_with command found) contents (length command.inputs) (inputs_rise command found)
      (made_below command found (inputs_with command found) refl) opened_are

  -- what they load is linkable
  linkable : (libs : LibraryGraph) (loaded : Loaded) → files_for command contents.inputs libs ≡ Ok loaded → AreLinkable loaded.files
  linkable libs loaded is =
      let read = (mapped_value load_fault_for (loaded_of contents.inputs libs (wanted command)) loaded).0 is in
      let end = (contents_of (places_of command) (file_told told)).end in
      let there = (mapped_value fetch_fault_for end found).0 ((told_value (map_err fetch_fault_for end) found).0 fetched.told) in
      let inputs = inputs_bytes command.all_load 0 command.inputs found (fetched_bytes (file_told told) (places_of command) found (map_bytes told bytes) there) in
      let held = contents_bytes (inputs_with command found) contents inputs opened_are in
      record {
        ordered = loaded_rises contents.inputs libs (wanted command) loaded order read;
        whole = loaded_whole contents.inputs libs (wanted command) loaded read held;
        low = loaded_low contents.inputs libs (wanted command) loaded read;
        unwinds = loaded_unwinds contents.inputs libs (wanted command) loaded read;
        bytes = loaded_bytes contents.inputs libs (wanted command) loaded read held;
      }

-- ---- the image

image_some : (command : Command) (libs : LibraryGraph) (files : List LoadedFile) → AreLinkable files → IsSomeAnswer (IsImage command libs files)
image_some command libs files are = by (link_exists command libs files are)
  where
    by : (given : Result (List ℕ) Refusal) × IsLinked command libs files given → IsSomeAnswer (IsImage command libs files)
    by (Ok image, is) = (Ok image, is)
    by (Err why, is) = (Err (Refused why), is)

-- ---- all steps

plan_some : (words : List (List ℕ)) (told : List Exchange) → AreOfBytes told → IsSome (plan_by (file_told told) words)
plan_some words told bytes =
    told_some (commanded words) (after_command look) (words_end words) (λ command commands.
    unless_some (crowd_stop command) (after_few look command) (λ few.
    asks_some (FetchedBy look command) (after_inputs look command) (fetched_some look command) (λ found before then fetched.
    told_some (contents_with command found) (from_libraries look command) (opening_ends command found) (λ contents are.
    asks_some (BoundBy look command contents.stubs) (after_libraries command contents.inputs)
    (bound_some told command contents.stubs (named told bytes command found before then fetched contents are)) (λ libs old new bound.
    told_some (files_for command contents.inputs libs) _ (rounds_end command contents.inputs libs) (λ loaded is.
    tries_some (IsImage command libs loaded.files) _
    (image_some command libs loaded.files (linkable told bytes command found before then fetched contents are libs loaded is)) (λ image made.
    last_some (Ok (plan_of command image)))))))))
  where
    look : List ℕ → File
    look = file_told told

pub verdict_exists : (words : List (List ℕ)) (told : List Exchange) → AreOfBytes told → (given : Result Plan Stop) × IsVerdict words (file_told told) given
unfolding IsVerdictAfter
verdict_exists words told bytes = let is = plan_some words told bytes [] in (is.0, (is.1, is.2))
