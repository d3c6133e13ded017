use Rattle.std.proofs.Common.{◌∙◌, ◌<◌, length, sym, ap, subst, arith}
use Rattle.par_work.specs.Drawn.{Holding}
use Rattle.par_work.specs.Fan.{WasRun}
use Rattle.par_work.specs.inner.Worked.{IsWorking, HasWorked}
use Rattle.par_work.specs.inner.Runs.{log_of}
use Rattle.par_work.proofs.Draws.{working_none, working_more, working_past, working_out, jobs_push, leads_push, length_drew}
use Rattle.par_work.proofs.worker.draw_all.Goals as goal

pub loop-drawn-init : goal.loop-drawn-init
loop-drawn-init g c =
    let fits = g.T.Task.fits c.args.task.now in
    let ran = g.T.Task.ran c.args.task.now in
    let w = c.args.worker.now in record {
      working = working_none (WasRun fits ran) fits c.args.claims.now.id c.args.blocks w.seat (log_of w.done.items) w.drawer c.requires.claims c.requires.passes c.requires.draws (ap log_of c.requires.done) c.requires.fits;
      drawn = ap length c.requires.draws;
    }

pub draw-block-requires-clause-drawer : goal.draw-block-requires-clause-drawer
draw-block-requires-clause-drawer g c = c.loop-drawn.invariant.working.claims

pub draw-block-requires-clause-pass : goal.draw-block-requires-clause-pass
draw-block-requires-clause-pass g c = omega (arith, c.loop-drawn.invariant.working.held, c.loop-drawn.invariant.drawn, c.from-drawn-end.ensures, c.loop-drawn-test.true)

pub run_range-requires-clause-fits : goal.run_range-requires-clause-fits
run_range-requires-clause-fits g c κs _ = c.loop-drawn.invariant.working.fits

pub loop-drawn-preserved : goal.loop-drawn-preserved
loop-drawn-preserved g c =
    let fits = g.T.Task.fits c.args.task.now in
    let ran = g.T.Task.ran c.args.task.now in
    let w = c.loop-drawn.worker in
    let run = c.in_ok-run.run' in
    let now = c.push.new.self.items in
    let block = c.draw-block.result in
    let some : 0 < w.drawer.passes = omega (arith, c.loop-drawn.invariant.working.held, c.loop-drawn.invariant.drawn, c.from-drawn-end.ensures, c.loop-drawn-test.true) in
    let is = c.draw-block.ensures.drawer in
    let more = jobs_push c.args.blocks w.done.items now run block _ _ c.in_ok-push.ensures.items c.in_ok-run.ensures.first c.in_ok-run.ensures.count c.range-from.ensures.from c.range-from.ensures.to in
    let led = leads_push (WasRun fits ran) w.done.items now run _ w.seat c.run_range.new.seat c.in_ok-push.ensures.items c.in_ok-run.ensures.first c.in_ok-run.ensures.leads in record {
      working = subst (λ (h : Holding). IsWorking (WasRun fits ran) fits c.args.claims.now.id c.args.blocks c.args.worker.now.seat c.run_range.new.seat (log_of now) h) (sym is)
          (working_more (WasRun fits ran) fits c.args.claims.now.id c.args.blocks c.args.worker.now.seat w.seat c.run_range.new.seat (log_of w.done.items) (log_of now) w.drawer block c.loop-drawn.invariant.working some more c.run_range.ensures.fits led);
      drawn = ap (λ (h : Holding). length h.draws) is ∙ length_drew w.drawer.draws block c.loop-drawn._drawn c.loop-drawn.invariant.drawn;
    }

pub returns-then-block-from : goal.returns-then-block-from
returns-then-block-from g c =
    let fits = g.T.Task.fits c.args.task.now in
    let ran = g.T.Task.ran c.args.task.now in
    let w = c.loop-drawn.worker in
    let some : 0 < w.drawer.passes = omega (arith, c.loop-drawn.invariant.working.held, c.loop-drawn.invariant.drawn, c.from-drawn-end.ensures, c.loop-drawn-test.true) in
    subst (λ (h : Holding). HasWorked (WasRun fits ran) fits c.args.claims.now.id c.args.blocks c.args.worker.now.seat w.seat (log_of w.done.items) h) (sym c.draw-block.ensures.drawer)
    (working_past (WasRun fits ran) fits c.args.claims.now.id c.args.blocks c.args.worker.now.seat w.seat (log_of w.done.items) w.drawer c.draw-block.result c.requires.blocks c.loop-drawn.invariant.working some (omega (arith, c.from.ensures, c.if-block-from.true)))

pub returns : goal.returns
returns g c =
    let fits = g.T.Task.fits c.args.task.now in
    let ran = g.T.Task.ran c.args.task.now in
    let w = c.loop-drawn.worker in
    working_out (WasRun fits ran) fits c.args.claims.now.id c.args.blocks c.args.worker.now.seat w.seat (log_of w.done.items) w.drawer c.loop-drawn.invariant.working (omega (arith, c.loop-drawn.invariant.drawn, c.from-drawn-end.ensures, c.loop-drawn-test.false))
