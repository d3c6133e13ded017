use Rattle.std.proofs.Common.{◌+◌, ◌/◌, refl, arith}
use Rattle.link_gen.proofs.StepLemmas.{even_steps, odd_steps, one_step}
use Rattle.link_gen.proofs.draws.+steps_of.Goals as goal

pub returns-then-count-eq1 : goal.returns-then-count-eq1
returns-then-count-eq1 t c =
    odd_steps c.then.result c.args.count (c.args.count / 2)
    (c.then.ensures (c.args.count / 2 + c.args.count / 2) 1 (c.then-even.ensures (c.args.count / 2) (c.args.count / 2) c.steps_of-half.ensures c.steps_of-half.ensures) (one_step _ refl))
    refl (omega arith)

pub returns-else-count-eq1 : goal.returns-else-count-eq1
returns-else-count-eq1 t c =
    even_steps c.then-even.result c.args.count (c.args.count / 2)
    (c.then-even.ensures (c.args.count / 2) (c.args.count / 2) c.steps_of-half.ensures c.steps_of-half.ensures)
    refl (omega arith)
