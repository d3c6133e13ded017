use Rattle.std.proofs.Common.{◌≡◌, map, take}
use Rattle.unwind_read.specs.Overlaps.{begin_of}
use Rattle.unwind_read.proofs.overlaps.begins_of.Given as goal

abbrev pub invariant-loop-span : goal.invariant-loop-span
invariant-loop-span l = l.bounds.items ≡ map begin_of (take l.span-index l.spans)
