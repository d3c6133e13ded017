-- The objects of what is planned are whole, and its names hold no NUL.
use Rattle.std.proofs.Common.{◌≡◌, ℕ, List, All, Option, Some, None, Result, Ok, Err, IfOk, ap, ◌∙◌, subst}
use Rattle.command_line.specs.declared.command.Command.{Command}
use Rattle.file_cache.specs.Program.{File}
use Rattle.input_fetch.specs.Contents.{places_of}
use Rattle.lib_bind.specs.Graph.{IsWhole}
use Rattle.lib_bind.specs.declared.bind_fault.BindFault.{BindFault}
use Rattle.lib_bind.specs.declared.library.LibraryGraph.{LibraryGraph}
use Rattle.link_engine.specs.Bytes.{HaveBytes}
use Rattle.link_engine.specs.Command.{command_of, commanded, crowd_stop, linked_rows, unless_crowded}
use Rattle.link_engine.specs.Input.{inputs_with}
use Rattle.link_engine.specs.Stop.{bind_fault_for, usage_fault_for}
use Rattle.link_engine.specs.declared.plan.Plan.{Plan}
use Rattle.link_engine.specs.declared.stop.Stop.{Stop}
use Rattle.link_engine.proofs.FetchedLemmas.{fetched_bytes, inputs_bytes}
use Rattle.link_engine.proofs.LoadedLemmas.{loaded_low, loaded_objects, loaded_unwinds, loaded_whole}
use Rattle.link_engine.proofs.PartLemmas.{contents_bytes}
use Rattle.link_files.specs.Names.{wanted}
use Rattle.link_steps.proofs.StepLemmas.{mapped_value, told_value}
use Rattle.link_steps.specs.Steps.{map_err}
use Rattle.link_steps.specs.declared.fault.StepFault.TheVariants as fault
use Rattle.mo_cmd.specs.Command.{command_by}
use Rattle.mo_obj.proofs.ReadLemmas.{bind_ok}
use Rattle.mo_types.specs.declared.object.Object.{Object}
use Rattle.reader_laws.specs.Facts.{HasNoNul}
use Rattle.reader_laws.proofs.Entries.{no_nul_in_entry}
use Rattle.reader_laws.proofs.Names.{no_nul_in_names}
use Rattle.loader_laws.specs.Plans.{IsPlanOfImage}
use Rattle.loader_laws.specs.Tellings.{AreNamed, AreWhole, IsCommonToAll, IsRegularCode}
use Rattle.loader_laws.proofs.ReadObjects.{code_is_regular, commons_are_external}

pub planned_whole : (words : List (List ℕ)) (look : List ℕ → File) (plan : Plan) (is : IsPlanOfImage words look plan) → HaveBytes look → AreWhole is.loaded.files
planned_whole words look plan is have =
    let found = fetched_bytes look (places_of is.command) is.found have is.fetched in
    let inputs = inputs_bytes is.command.all_load 0 is.command.inputs is.found found in
    loaded_whole is.contents.inputs is.libs (wanted is.command) is.loaded is.read (contents_bytes (inputs_with is.command is.found) is.contents inputs is.opened_are)

-- ---- names

-- the command of words is one that was read of them
value_is : {A E : Type 0} (x y : A) → ◌≡◌ {A = Result A E} (Ok x) (Ok y) → x ≡ y
value_is x y e = cc

none_is : {A E : Type 0} {X : Type 0} (why : E) (y : A) → ◌≡◌ {A = Result A E} (Err why) (Ok y) → X
none_is why y e = absurd cc

command_read : (words : List (List ℕ)) (command : Command) → command_of words ≡ Ok command → command_by linked_rows words ≡ Ok command
unfolding command_of
command_read words command e =
    let read = bind_ok (commanded words) _ command e in
    let same : read.0 ≡ command = by read.0 (crowd_stop read.0) read.2 in
    (mapped_value usage_fault_for (command_by linked_rows words) command).0 (read.1 ∙ ap Ok same)
  where
    by : (read : Command) (stop : Option Stop) → unless_crowded stop read ≡ Ok command → read ≡ command
    by read None f = value_is read command f
    by read (Some why) f = none_is (fault.Stop why) command f

planned_entry : (words : List (List ℕ)) (look : List ℕ → File) (plan : Plan) (is : IsPlanOfImage words look plan) → HasNoNul is.command.entry
planned_entry words look plan is = no_nul_in_entry linked_rows words is.command (command_read words is.command is.commanded)

-- ---- libraries

planned_libraries : (words : List (List ℕ)) (look : List ℕ → File) (plan : Plan) (is : IsPlanOfImage words look plan) → IsWhole is.libs
planned_libraries words look plan is =
    let bound : is.bound.bound ≡ Ok is.libs = (mapped_value bind_fault_for is.bound.bound is.libs).0 ((told_value (map_err bind_fault_for is.bound.bound) is.libs).0 is.bound.told) in
    subst (λ (r : Result LibraryGraph BindFault). IfOk r IsWhole) bound is.bound.whole

pub planned_named : (words : List (List ℕ)) (look : List ℕ → File) (plan : Plan) (is : IsPlanOfImage words look plan) → AreNamed is.command is.libs is.loaded.files
planned_named words look plan is = record {
  symbols = loaded_objects is.contents.inputs is.libs (wanted is.command) is.loaded is.read (λ (object : Object). All (λ symbol. HasNoNul symbol.name) object.symbols) no_nul_in_names;
  commons = loaded_objects is.contents.inputs is.libs (wanted is.command) is.loaded is.read (λ (object : Object). All IsCommonToAll object.symbols) commons_are_external;
  code = loaded_objects is.contents.inputs is.libs (wanted is.command) is.loaded is.read (λ (object : Object). All IsRegularCode object.sections) code_is_regular;
  low = loaded_low is.contents.inputs is.libs (wanted is.command) is.loaded is.read;
  unwinds = loaded_unwinds is.contents.inputs is.libs (wanted is.command) is.loaded is.read;
  entry = planned_entry words look plan is;
  libraries = planned_libraries words look plan is;
}
