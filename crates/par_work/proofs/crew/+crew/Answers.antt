use borrow.Author.Rules.{rules}
use denote.Param.Send.{sendable}
use Rattle.std.proofs.Common.{◌++◌, subst}
use Rattle.std.specs.List.{All}
use Rattle.std.proofs.lemmas.Result.{IfOk-at_ok}
use Rattle.par_work.specs.Fan.{WasRun}
use Rattle.par_work.specs.inner.Harvest.{IsHarvest}
use Rattle.par_work.specs.inner.Runs.{log_of}
use Rattle.par_work.proofs.Harvests.{union, harvest_both, joined, all_low, all_high}
use Rattle.par_work.proofs.crew.+crew.Goals as goal

pub join-a-requires-after_bounds : goal.join-a-requires-after_bounds
join-a-requires-after_bounds g t c κs within =
    let fits = g.T.Task.fits c.args.task.now in
    let all = subst (All fits) c.in_ok-low.ensures.seats c.requires.fits in
    let front : All fits c.in_ok-low.low.seats.items = all_low fits c.in_ok-low.low.seats.items c.in_ok-low.high.seats.items all in
    let back : All fits c.in_ok-low.high.seats.items = all_high fits c.in_ok-low.low.seats.items c.in_ok-low.high.seats.items all in
    search (rules, sendable) depth 20

pub returns : goal.returns
returns g t c =
    let fits = g.T.Task.fits c.args.task.now in
    let ran = g.T.Task.ran c.args.task.now in
    let id = c.args.claims.now.id in
    let low = c.in_ok-low.low in
    let high = c.in_ok-low.high in
    let front = c.in_ok-front.front in
    let back = c.in_ok-back.back in
    let a = IfOk-at_ok (λ h. IsHarvest (WasRun fits ran) fits id c.args.blocks low.seats.items h.ends.items (log_of h.done.items) h.drawer) c.in_ok-front.was c.join-a.ensures.first in
    let b = IfOk-at_ok (λ h. IsHarvest (WasRun fits ran) fits id c.args.blocks high.seats.items h.ends.items (log_of h.done.items) h.drawer) c.in_ok-back.was c.join-a.ensures.second in
    joined (WasRun fits ran) fits id c.args.blocks (low.seats.items ++ high.seats.items) c.args.crew.seats.items (front.ends.items ++ back.ends.items) front.done.items back.done.items (union front.drawer back.drawer) c.both.result
    c.in_ok-low.ensures.seats c.both.ensures.ends c.both.ensures.done c.both.ensures.drawer
    (harvest_both (WasRun fits ran) fits id c.args.blocks low.seats.items high.seats.items front.ends.items back.ends.items (log_of front.done.items) (log_of back.done.items) front.drawer back.drawer a b)
