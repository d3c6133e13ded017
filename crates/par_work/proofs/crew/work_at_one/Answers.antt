use Rattle.std.proofs.Common.{◌≡◌, ◌-◌, ◌∙◌, ◌++◌, ℕ, take, ap, arith}
use Rattle.std.specs.Prelude.{option_to_list}
use Rattle.par_work.specs.Fan.{WasRun}
use Rattle.par_work.specs.inner.Runs.{log_of}
use Rattle.par_work.proofs.Harvests.{harvest_one}
use Rattle.par_work.proofs.crew.work_at_one.Goals as goal

pub returns : goal.returns
returns g c =
    let fits = g.T.Task.fits c.args.task.now in
    let ran = g.T.Task.ran c.args.task.now in
    let one_left : c.args.crew.seats.len ≡ 1 = omega (arith, c.requires.one, c.requires.crew.some) in
    harvest_one (WasRun fits ran) fits c.args.claims.now.id c.args.blocks c.args.crew.seats.items c.pop.new.self.items c.push.new.self.items c.unwrap-seat.result c.draw_all.new.worker.seat (log_of c.draw_all.new.worker.done.items) c.draw_all.new.worker.drawer
    (c.pop.ensures.items ∙ ap (λ o. c.pop.new.self.items ++ option_to_list o) c.unwrap-seat.ensures)
    (c.pop.ensures.rest ∙ ap (λ (n : ℕ). take (n - 1) c.args.crew.seats.items) one_left)
    c.in_ok-push.ensures.items
    c.in_ok-draw_all.ensures
