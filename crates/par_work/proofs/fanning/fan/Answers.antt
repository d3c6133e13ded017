use Rattle.par_work.specs.Fan.{WasRun, IsFanned}
use Rattle.par_work.specs.inner.Runs.{log_of}
use Rattle.par_work.proofs.Fanned.{harvest_jobs, fanned}
use Rattle.par_work.proofs.Pieces.{pieces_given}
use Rattle.par_work.proofs.fanning.fan.Goals as goal

pub in_order-requires : goal.in_order-requires
in_order-requires g c =
    let fits = g.T.Task.fits c.args.task.now in
    let ran = g.T.Task.ran c.args.task.now in
    let h = c.in_ok-ends.field-0 in
    harvest_jobs (WasRun fits ran) fits c.in_ok-claims.claims.id c.of-blocks.result c.args.seats.items h.ends.items (log_of h.done.items) h.drawer c.args.jobs c.close-drawn.result c.in_ok-ends.ensures c.of-blocks.ensures.blocks c.of-blocks.ensures.jobs c.close-drawn.ensures.draws c.close-drawn.ensures.count

pub returns-clause-fanned : goal.returns-clause-fanned
returns-clause-fanned g c =
    let fits = g.T.Task.fits c.args.task.now in
    let ran = g.T.Task.ran c.args.task.now in
    let h = c.in_ok-ends.field-0 in
    fanned (WasRun fits ran) fits c.in_ok-claims.claims.id c.of-blocks.result c.args.seats.items h.ends.items (log_of h.done.items) h.drawer c.args.jobs c.in_ok-pieces.pieces.items c.in_ok-ends.ensures c.in_ok-pieces.ensures.count c.in_ok-pieces.ensures.once

pub returns-clause-gives : goal.returns-clause-gives
returns-clause-gives g c =
    let fits = g.T.Task.fits c.args.task.now in
    let ran = g.T.Task.ran c.args.task.now in
    let h = c.in_ok-ends.field-0 in
    let all : IsFanned (WasRun fits ran) c.args.seats.items c.args.jobs h.ends.items c.in_ok-pieces.pieces.items =
    fanned (WasRun fits ran) fits c.in_ok-claims.claims.id c.of-blocks.result c.args.seats.items h.ends.items (log_of h.done.items) h.drawer c.args.jobs c.in_ok-pieces.pieces.items c.in_ok-ends.ensures c.in_ok-pieces.ensures.count c.in_ok-pieces.ensures.once in
    pieces_given (WasRun fits ran) c.args.seats.items h.ends.items c.args.jobs c.in_ok-pieces.pieces.items all
