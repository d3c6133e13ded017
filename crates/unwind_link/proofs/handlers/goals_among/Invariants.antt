use Rattle.std.proofs.Common.{[], take}
use Rattle.resolve.specs.Table.{goals_of}
use Rattle.unwind_link.specs.Personalities.{personality_goals}
use Rattle.unwind_link.specs.inner.Adds.{Adds}
use Rattle.unwind_link.proofs.handlers.goals_among.Given as goal

abbrev pub invariant-loop-one : goal.invariant-loop-one
invariant-loop-one l = Adds [] (personality_goals l.symbols.literals (goals_of l.goals) (take l.one-index l.kept)) l.found.items
