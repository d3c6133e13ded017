use Rattle.std.proofs.Common.{◌≡◌, take}
use Rattle.resolve.specs.Table.{file_goals}
use Rattle.slot_needs.specs.inner.Gathered.{Adds, needs_among}
use Rattle.slot_needs.proofs.walk.note_file.Given as goal

abbrev pub invariant-loop-at : goal.invariant-loop-at
invariant-loop-at l = (l.now.pool ≡ l.fn.before.pool) × Adds l.fn.before.needs (needs_among l.symbols.literals l.keys (file_goals l.goals) (take l.at l.file.refs)) l.now.needs
