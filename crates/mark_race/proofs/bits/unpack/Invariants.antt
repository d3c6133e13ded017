use Rattle.std.proofs.Common.{◌≡◌, ℕ, ◌<◌, false, get_or}
use Rattle.std.specs.Prelude.{◌==◌}
use Rattle.std.specs.Mem.Slots.{slots_items}
use Rattle.mark_race.specs.Rule.{bit_of}
use Rattle.mark_race.proofs.bits.unpack.Given as goal

-- the places so far are written
abbrev pub invariant-loop-i : goal.invariant-loop-i
invariant-loop-i l = (atom : ℕ) → atom < l.i → get_or l.into atom false ≡ (bit_of (slots_items l.closed.words) atom == 1)
