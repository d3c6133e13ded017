-- Goals that are gathered entry by entry.
use Rattle.std.specs.Prelude.{◌⊎◌, List, Contains}
use Rattle.mo_types.specs.declared.goal.Goal.{Goal}

-- goals, and these more
pub record Adds (before more after : List Goal) : Type 0 where
  pub kept : (goal : Goal) → Contains before goal → Contains after goal
  pub all : (goal : Goal) → Contains more goal → Contains after goal
  pub only : (goal : Goal) → Contains after goal → Contains before goal ⊎ Contains more goal
