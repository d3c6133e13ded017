use Rattle.std.proofs.lemmas.List.Filters.{dedup_is}
use Rattle.slot_plan.proofs.Ordered.{left_once}
use Rattle.slot_plan.proofs.plan.leave_once.Goals as goal

pub returns : goal.returns
returns c = left_once _ _ c.requires (dedup_is _ _ _ c.dedup.ensures.filtered)
