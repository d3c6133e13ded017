use Rattle.std.proofs.Common.{◌-◌, ◌^◌, ◌<◌}
use Rattle.disk_outside.proofs.words.word.Given as goal

-- the room is never empty
abbrev pub invariant-loop-bytes : goal.invariant-loop-bytes
invariant-loop-bytes g l = 0 < l.room

abbrev pub decreases-loop-bytes : goal.decreases-loop-bytes
decreases-loop-bytes g l = 2 ^ 64 - l.room
