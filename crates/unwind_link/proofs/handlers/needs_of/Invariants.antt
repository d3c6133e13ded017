use Rattle.std.proofs.Common.{◌≡◌, map, take}
use Rattle.unwind_link.specs.Personalities.{slot_need}
use Rattle.unwind_link.proofs.handlers.needs_of.Given as goal

abbrev pub invariant-loop-goal : goal.invariant-loop-goal
invariant-loop-goal l = l.needs ≡ map slot_need (take l.goal-index l.goals)
