use Rattle.std.specs.Option.{option_map}
use Rattle.resolve.specs.Table.{goals_of}
use Rattle.liveness.specs.inner.Lost.{held}
use Rattle.liveness.proofs.LostLemmas.{IsLeastTo}
use Rattle.liveness.proofs.lost.note_files.Given as goal

abbrev pub invariant-loop-at : goal.invariant-loop-at
invariant-loop-at l = IsLeastTo l.keys l.files (goals_of l.goals) l.at (option_map held l.least)
