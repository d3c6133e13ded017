-- Where the targets of a file's unwind entries lead.
use Rattle.std.specs.Prelude.{ℕ, List}
use Rattle.literal_merge.specs.declared.representative.Representative.{Representative}
use Rattle.mo_types.specs.declared.goal.Goal.{Goal}
use Rattle.mo_types.specs.declared.reference.Target.{Target}
use Rattle.ref_meet.specs.Scene.{goals_at}
use Rattle.resolve.specs.Goals.{target_goal}

-- where a target of the file at a place leads
unfoldable pub goal_at : List Representative → List (List Goal) → ℕ → Target → Goal
goal_at literals goals file target = target_goal literals (goals_at goals file) target
