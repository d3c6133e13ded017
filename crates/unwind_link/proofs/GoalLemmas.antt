-- The goals of targets, by the goals of their file's symbols.
use Rattle.std.proofs.Common.{◌≡◌, ℕ, List, [], Some, None}
use Rattle.std.specs.Prelude.{slice_get}
use Rattle.literal_merge.specs.declared.representative.Representative.{Representative}
use Rattle.mo_types.specs.declared.goal.Goal.{Goal}
use Rattle.mo_types.specs.declared.reference.Target.{Target}
use Rattle.resolve.specs.Goals.{target_goal}
use Rattle.unwind_link.specs.Goals.{goal_at}

pub in_table : (literals : List Representative) (goals : List (List Goal)) (some : List Goal) (file : ℕ) (target : Target) (goal : Goal) → slice_get goals file ≡ Some some → goal ≡ target_goal literals some target → goal ≡ goal_at literals goals file target
unfolding goal_at
in_table literals goals some file target goal is leads = rw is leads

pub not_in_table : (literals : List Representative) (goals : List (List Goal)) (file : ℕ) (target : Target) (goal : Goal) → slice_get goals file ≡ None → goal ≡ target_goal literals [] target → goal ≡ goal_at literals goals file target
unfolding goal_at
not_in_table literals goals file target goal is leads = rw is leads

pub ruleset tables = (in_table, not_in_table)
