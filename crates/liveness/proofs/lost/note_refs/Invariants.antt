use Rattle.std.specs.Option.{option_map}
use Rattle.resolve.specs.Table.{goals_in}
use Rattle.liveness.specs.inner.Lost.{held}
use Rattle.liveness.proofs.LostLemmas.{IsNoted}
use Rattle.liveness.proofs.lost.note_refs.Given as goal

abbrev pub invariant-loop-at : goal.invariant-loop-at
invariant-loop-at l = IsNoted l.keys l.file (goals_in l.goals.pool l.goals.places) (option_map held l.fn.least) l.at (option_map held l.found) l.last.key l.last.kept
