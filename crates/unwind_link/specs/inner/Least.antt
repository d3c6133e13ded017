-- The first of some entries, as it is found entry by entry.
use Rattle.std.specs.Prelude.{Option, Some, None, if◌then◌else◌}
use Rattle.std.specs.Ordering.{is_lt}
use Rattle.unwind_link.specs.Dwarf.{compare_kept}
use Rattle.unwind_link.specs.declared.kept.KeptUnwind.{KeptUnwind}

-- of two the lesser one, and the earlier where neither is
abbrev pub lesser : Option KeptUnwind → KeptUnwind → Option KeptUnwind
lesser None next = Some next
lesser (Some first) next = if is_lt (compare_kept next first) then Some next else Some first
