use Rattle.std.proofs.Common.{◌≡◌, fold, take}
use Rattle.resolve.specs.Table.{file_goals}
use Rattle.slot_needs.specs.Unmet.{lesser, unmet_among}
use Rattle.slot_needs.proofs.unmet.with_refs.Given as goal

abbrev pub invariant-loop-at : goal.invariant-loop-at
invariant-loop-at l = l.now ≡ fold lesser l.fn.least (unmet_among l.keys (file_goals l.goals) l.file (take l.at l.refs))
