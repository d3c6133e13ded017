use Rattle.std.proofs.Common.{get_or, refl}
use Rattle.mark_race.proofs.Working.{job_marked}
use Rattle.mark_race.proofs.level.MarkingTask.run.Goals as goal

pub returns-clause-ran : goal.returns-clause-ran
returns-clause-ran c =
    let work = c.args.self.now.work.now in
    job_marked c.args.self.now.ends.now work c.args.job (get_or work c.args.job 0) c.row-row.result.now c.args.seat.now c.mark_row.new.worker c.mark_row.ensures c.requires.job refl c.row-row.ensures
