use Rattle.std.proofs.Common.{◌≡◌, ◌-◌, length}
use Rattle.par_work.specs.Fan.{Leads, WasRun, numbered}
use Rattle.par_work.proofs.worker.run_range.Given as goal

abbrev pub invariant-loop-job : goal.invariant-loop-job
invariant-loop-job g l = record {
  fits : g.T.Task.fits l.task l.seat;
  count : length l.pieces.items ≡ l.job - l.from;
  leads : Leads (WasRun (g.T.Task.fits l.task) (g.T.Task.ran l.task)) l.initial.seat (numbered l.from l.pieces.items) l.seat;
}
