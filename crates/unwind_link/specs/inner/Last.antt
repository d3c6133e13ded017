-- The slot of a target that was asked for before.
use Rattle.std.specs.Prelude.{◌≡◌}
use Rattle.ref_meet.specs.Scene.{Scene}
use Rattle.unwind_link.specs.Rows.{slot_offset}
use Rattle.unwind_link.specs.declared.rows.LastSlot.{LastSlot}

-- it is the target's own
abbrev pub IsKnown : Scene → LastSlot → Type 0
IsKnown s last = last.slot ≡ slot_offset s last.file last.target
