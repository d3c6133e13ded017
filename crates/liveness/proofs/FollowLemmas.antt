-- The atom of a target by the goals of a file's symbols is that of the target's goal.
use Rattle.std.proofs.Common.{◌≡◌, List, Some, None, refl, ap, ◌∙◌, slice_get}
use Rattle.std.specs.Prelude.{Option, unwrap_or}
use Rattle.std.specs.Option.{option_and_then}
use Rattle.lib_bind.specs.declared.library.LibraryGraph.{LibraryGraph}
use Rattle.command_line.specs.declared.command.Command.{Command}
use Rattle.mo_types.specs.declared.goal.Goal.{Goal}
use Rattle.mo_types.specs.declared.goal.Goal.TheVariants.{Nobody}
use Rattle.mo_types.specs.declared.loaded.LoadedFile.{LoadedFile}
use Rattle.mo_types.specs.declared.reference.Target.{Target}
use Rattle.mo_types.specs.declared.reference.Target.TheVariants as target
use Rattle.liveness.specs.Edges.{goal_atom, target_atom}
use Rattle.resolve.specs.Goals.{goal_of, goals_of_symbols, target_goal}
use Rattle.resolve.proofs.TargetLemmas.{leads_same}
use Rattle.literal_merge.specs.Representatives.{representatives_of}
use Rattle.literal_merge.specs.declared.representative.Representative.{Representative}

goal_there : (o : Option Goal) → option_and_then goal_atom o ≡ goal_atom (unwrap_or o Nobody)
goal_there None = refl
goal_there (Some goal) = refl

by_goal : (literals : List Representative) (goals : List Goal) (to : Target) → target_atom literals goals to ≡ goal_atom (target_goal literals goals to)
by_goal literals goals (target.Local atom offset) = refl
by_goal literals goals (target.Name index) = goal_there (slice_get goals index)

pub edges_follow : (files : List LoadedFile) (graph : LibraryGraph) (command : Command) (file : LoadedFile) (to : Target) → target_atom (representatives_of files) (goals_of_symbols files graph command file) to ≡ goal_atom (goal_of files graph command file to)
edges_follow files graph command file to = by_goal (representatives_of files) (goals_of_symbols files graph command file) to ∙ ap goal_atom (leads_same files graph command file to)
