use Rattle.std.proofs.Common.{◌≡◌, length}
use Rattle.par_work.specs.Fan.{WasRun}
use Rattle.par_work.specs.inner.Runs.{log_of}
use Rattle.par_work.specs.inner.Worked.{IsWorking}
use Rattle.par_work.proofs.worker.draw_all.Given as goal

abbrev pub invariant-loop-drawn : goal.invariant-loop-drawn
invariant-loop-drawn g l = record {
  working : IsWorking (WasRun (g.T.Task.fits l.task) (g.T.Task.ran l.task)) (g.T.Task.fits l.task) l.claims.id l.blocks l.initial.worker.seat l.worker.seat (log_of l.worker.done.items) l.worker.drawer;
  drawn : length l.worker.drawer.draws ≡ l._drawn;
}
