use Prim.Native.Nat.{◌+◌, ◌*◌}
use Rattle.image_join.proofs.filling.+halves.Given as goal

abbrev pub decreases-fill_piece : goal.decreases-fill_piece
decreases-fill_piece g l = 2 * l.workers.count

abbrev pub decreases-place_low : goal.decreases-place_low
decreases-place_low g l = 2 * l.low + 1

abbrev pub decreases-place_high : goal.decreases-place_high
decreases-place_high g l = 2 * l.high + 1
