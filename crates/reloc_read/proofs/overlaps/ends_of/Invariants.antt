use Rattle.std.proofs.Common.{◌≡◌, map, take}
use Rattle.reloc_read.specs.Overlaps.{end_of}
use Rattle.reloc_read.proofs.overlaps.ends_of.Given as goal

abbrev pub invariant-loop-field : goal.invariant-loop-field
invariant-loop-field l = l.ends.items ≡ map end_of (take l.field-index l.fields)
