use Rattle.std.proofs.Common.{◌≡◌, true, false}
use Rattle.mark_race.proofs.Working.{marked_new}
use Rattle.mark_race.proofs.level.mark_one.Goals as goal

pub returns-in-Ok : goal.returns-in-Ok
returns-in-Ok c = marked_new c.args.atom c.args.worker.now _ c.mark.result c.if-not-mark.false c.mark.ensures.marker (λ e. (e, c.in-Ok.ensures.items))

pub returns-in-Err : goal.returns-in-Err
returns-in-Err c = marked_new c.args.atom c.args.worker.now _ c.mark.result c.if-not-mark.false c.mark.ensures.marker (λ e. absurd (let f : true ≡ false = e in cc))
