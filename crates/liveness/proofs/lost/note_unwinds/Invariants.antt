use Rattle.std.specs.Option.{option_map}
use Rattle.resolve.specs.Table.{goals_in}
use Rattle.liveness.specs.inner.Lost.{held}
use Rattle.liveness.proofs.LostLemmas.{IsHandled}
use Rattle.liveness.proofs.lost.note_unwinds.Given as goal

abbrev pub invariant-loop-unwind : goal.invariant-loop-unwind
invariant-loop-unwind l = IsHandled l.keys l.file (goals_in l.goals.pool l.goals.places) (option_map held l.fn.least) l.unwind-index (option_map held l.found)
