use Rattle.std.proofs.Common.{sym}
use Rattle.sect_place.proofs.Shifting.{step_at, past_steps}
use Rattle.sect_place.proofs.shift.bytes_before.Goals as goal

pub returns-then-at-steps : goal.returns-then-at-steps
returns-then-at-steps c = λ rising.
    sym (step_at c.args.steps.now c.args.all c.args.atom.now c.count_before-at.result _ (c.count_before-at.ensures rising) c.if-at-steps.true)

pub returns-else-at-steps : goal.returns-else-at-steps
returns-else-at-steps c = λ rising. sym (past_steps c.args.steps.now c.args.all c.args.atom.now c.count_before-at.result (c.count_before-at.ensures rising) c.if-at-steps.false)
