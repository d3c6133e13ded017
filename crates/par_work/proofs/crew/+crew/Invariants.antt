use Rattle.std.proofs.Common.{◌+◌, ◌*◌}
use Rattle.par_work.proofs.crew.+crew.Given as goal

abbrev pub decreases-work_all : goal.decreases-work_all
decreases-work_all g l = 2 * l.crew.seats.len

abbrev pub decreases-front : goal.decreases-front
decreases-front g l = 2 * l.low.seats.len + 1

abbrev pub decreases-back : goal.decreases-back
decreases-back g l = 2 * l.high.seats.len + 1
