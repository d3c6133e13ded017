use Rattle.std.specs.Option.{option_map}
use Rattle.liveness.specs.inner.Lost.{held}
use Rattle.liveness.proofs.LostLemmas.{IsWantedTo}
use Rattle.liveness.proofs.lost.note_wanted.Given as goal

abbrev pub invariant-loop-name : goal.invariant-loop-name
invariant-loop-name l = IsWantedTo l.names (option_map held l.fn.least) l.name-index (option_map held l.found)
