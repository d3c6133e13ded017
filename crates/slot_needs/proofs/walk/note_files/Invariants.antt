use Rattle.std.proofs.Common.{◌≡◌}
use Rattle.resolve.specs.Table.{goals_of}
use Rattle.slot_needs.specs.inner.Gathered.{Adds}
use Rattle.slot_needs.proofs.FileLemmas.{needs_to}
use Rattle.slot_needs.proofs.walk.note_files.Given as goal

abbrev pub invariant-loop-at : goal.invariant-loop-at
invariant-loop-at l = (l.now.pool ≡ l.fn.before.pool) × Adds l.fn.before.needs (needs_to l.referring.symbols.now.literals l.referring.keys.now (goals_of l.referring.goals.now) l.referring.loaded.now.files l.at) l.now.needs
