-- What files link to went through all steps.
use Rattle.std.proofs.Common.{◌≡◌, ℕ, List, Option, Some, None, Ok, refl}
use Rattle.liveness.specs.Undefined.{undefined}
use Rattle.lib_bind.specs.declared.library.LibraryGraph.{LibraryGraph}
use Rattle.link_steps.proofs.StepLemmas.{checks_passed, unless_passed}
use Rattle.command_line.specs.declared.command.Command.{Command}
use Rattle.mo_types.specs.declared.answer.Refusal.TheVariants as refusal
use Rattle.mo_types.specs.declared.goal.Goal.{Goal}
use Rattle.mo_types.specs.declared.key.AtomKey.{AtomKey}
use Rattle.mo_types.specs.declared.loaded.LoadedFile.{LoadedFile}
use Rattle.resolve.specs.Goals.{goal_table}
use Rattle.link_files.specs.Causes.{WentThrough}
use Rattle.link_files.specs.Linked.{IsLinked}
use Rattle.link_files.specs.Lost.{lost_wanted, undefined_refusal}
use Rattle.link_files.specs.Names.{wanted}
use Rattle.link_files.proofs.NameLemmas.{atoms_few, names_few}

none_lost : (command : Command) (libs : LibraryGraph) (files : List LoadedFile) (goals : List (List Goal)) (keys : List AtomKey) → undefined_refusal command libs files goals keys ≡ None → undefined keys files goals (lost_wanted command libs files) ≡ None
unfolding undefined_refusal
none_lost command libs files goals keys e = by (undefined keys files goals (lost_wanted command libs files)) refl
  where
    by : (o : Option (List ℕ × List ℕ)) → undefined keys files goals (lost_wanted command libs files) ≡ o → undefined keys files goals (lost_wanted command libs files) ≡ None
    by None f = f
    by (Some (name, file)) f = absurd (let g : Some (refusal.Undefined name file) ≡ None = rw f at e in cc)

pub went_through : (command : Command) (libs : LibraryGraph) (files : List LoadedFile) (image : List ℕ) → IsLinked command libs files (Ok image) → WentThrough command libs files image
went_through command libs files image linked =
    let goals : List (List Goal) = goal_table files libs command in
    let named = unless_passed _ _ _ linked in
    let few = unless_passed _ _ _ named.1 in
    let once = checks_passed _ _ _ few.1 in
    let symbols = once.1 in
    let kept = symbols.follows in
    let found = unless_passed _ _ _ kept.follows in
    let no_dwarf = checks_passed _ _ _ found.1 in
    let few_handlers = checks_passed _ _ _ no_dwarf.1 in
    let needed = few_handlers.1 in
    let bound = checks_passed _ _ _ needed.follows in
    let met = checks_passed _ _ _ bound.1 in
    record {
      symbols = symbols.value;
      keys = kept.value;
      slots = needed.value;
      inside = record {
        few_names = names_few files (wanted command) named.0;
        few_atoms = atoms_few files few.0;
        once = once.0;
        symbols_are = symbols.is;
        kept = kept.is;
        found = none_lost command libs files goals kept.value found.0;
        no_dwarf = no_dwarf.0;
        few_handlers = few_handlers.0;
        slots_are = needed.is;
        few_imports = bound.0;
        met = met.0;
      };
      info = met.1.0;
      made = met.1.1;
    }
