use Rattle.std.proofs.Common.{◌≡◌, fold, None}
use Rattle.resolve.specs.Table.{goals_of}
use Rattle.slot_needs.specs.Unmet.{lesser}
use Rattle.slot_needs.proofs.UnmetLemmas.{unmet_to}
use Rattle.slot_needs.proofs.unmet.least_of.Given as goal

abbrev pub invariant-loop-at : goal.invariant-loop-at
invariant-loop-at l = l.now ≡ fold lesser None (unmet_to l.referring.keys.now (goals_of l.referring.goals.now) l.referring.loaded.now.files l.at)
