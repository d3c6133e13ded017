-- Names that lead nowhere (ld(1): -undefined error).
use Rattle.std.specs.Prelude.{ℕ, Bool, List, Option}
use Rattle.std.specs.List.{filter}
use Rattle.std.specs.Option.{option_map}
use Rattle.liveness.specs.Undefined.{is_nobody, undefined}
use Rattle.lib_bind.specs.declared.library.LibraryGraph.{LibraryGraph}
use Rattle.command_line.specs.declared.command.Command.{Command}
use Rattle.mo_types.specs.declared.answer.Refusal.{Refusal}
use Rattle.mo_types.specs.declared.answer.Refusal.TheVariants.{Undefined}
use Rattle.mo_types.specs.declared.goal.Goal.{Goal}
use Rattle.mo_types.specs.declared.key.AtomKey.{AtomKey}
use Rattle.mo_types.specs.declared.loaded.LoadedFile.{LoadedFile}
use Rattle.resolve.specs.Goals.{goal_of_name}
use Rattle.link_files.specs.Names.{wanted}

-- a name leads nowhere
abbrev pub is_lost : Command → LibraryGraph → List LoadedFile → List ℕ → Bool
is_lost command libs files name = is_nobody (goal_of_name files libs command name)

-- the names that the command line wants and that lead nowhere
unfoldable pub lost_wanted : Command → LibraryGraph → List LoadedFile → List (List ℕ)
lost_wanted command libs files = filter (is_lost command libs files) (wanted command)

-- the least name that leads nowhere, of those to which kept atoms refer and of the wanted ones, with the first file of
-- which a kept atom refers to it
unfoldable pub undefined_refusal : Command → LibraryGraph → List LoadedFile → List (List Goal) → List AtomKey → Option Refusal
undefined_refusal command libs files goals keys =
    option_map (λ p. Undefined p.0 p.1) (undefined keys files goals (lost_wanted command libs files))
