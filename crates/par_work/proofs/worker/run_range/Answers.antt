use Rattle.par_work.specs.Fan.{WasRun}
use Rattle.par_work.proofs.Logs.{run_more}
use Rattle.par_work.proofs.worker.run_range.Goals as goal

pub loop-job-preserved : goal.loop-job-preserved
loop-job-preserved g c =
    let fits = g.T.Task.fits c.args.task.now in
    let ran = g.T.Task.ran c.args.task.now in
    let was = c.loop-job.invariant in
    let more = run_more (WasRun fits ran) c.args.from c.loop-job.job c.loop-job.pieces.items c.push.new.self.items c.args.seat.now c.loop-job.seat c.run.new.seat c.run.result c.loop-job.auto.job was.count c.in_ok-push.ensures.items was.leads record { fits = was.fits; ran = c.run.ensures.ran } in record {
      fits = c.run.ensures.seat;
      count = more.0;
      leads = more.1;
    }
