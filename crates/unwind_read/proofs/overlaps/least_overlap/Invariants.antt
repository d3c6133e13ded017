use Rattle.std.proofs.Common.{◌≡◌}
use Rattle.std.specs.List.{filter_map, range_with_len}
use Rattle.mo_types.specs.RelocationRules.{least}
use Rattle.unwind_read.specs.Overlaps.{overlap_at}
use Rattle.unwind_read.proofs.overlaps.least_overlap.Given as goal

abbrev pub invariant-loop-at : goal.invariant-loop-at
invariant-loop-at l = l.fault ≡ least (filter_map (overlap_at l.spans) (range_with_len 0 l.at))
