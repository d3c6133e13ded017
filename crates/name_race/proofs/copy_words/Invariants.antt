use Rattle.std.proofs.Common.{◌≡◌, take}
use Rattle.std.specs.Mem.Slots.{slots_items}
use Rattle.name_race.proofs.copy_words.Given as goal

-- the words so far are written
abbrev pub invariant-loop-i : goal.invariant-loop-i
invariant-loop-i l = take l.i l.into ≡ take l.i (slots_items l.closed.words)
