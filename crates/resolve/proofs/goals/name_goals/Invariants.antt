use Rattle.resolve.proofs.MappedLemmas.{IsMapped}
use Rattle.resolve.specs.inner.Scoped.{name_goal, names_of}
use Rattle.resolve.proofs.goals.name_goals.Given as goal

abbrev pub invariant-loop-id : goal.invariant-loop-id
invariant-loop-id l = IsMapped (name_goal l.scope) l.pool.items (names_of l.scope) l.id
