use Rattle.std.proofs.Common.{◌≡◌, take}
use Rattle.unwind_read.specs.Unwinds.{spans_of}
use Rattle.unwind_read.proofs.ranges.spans_of.Given as goal

abbrev pub invariant-loop-at : goal.invariant-loop-at
invariant-loop-at l = l.spans.items ≡ take l.at (spans_of l.cut.object.now)
