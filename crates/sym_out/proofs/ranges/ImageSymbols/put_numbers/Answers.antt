use Rattle.std.proofs.Common.{ℕ, ◌++◌, ap, ◌∙◌}
use Rattle.mo_bytes.specs.Number.{number_bytes}
use Rattle.sym_out.specs.Symbols.{indirect_number}
use Rattle.sym_out.proofs.Loops.{putting_goes_on}
use Rattle.sym_out.proofs.ranges.ImageSymbols.put_numbers.Goals as goal

pub loop-goal-preserved : goal.loop-goal-preserved
loop-goal-preserved c =
    putting_goes_on (λ goal. number_bytes 4 (indirect_number c.args.self.now goal)) c.args.goals.now c.args.out.now.items c.loop-goal.goal-index
    c.loop-goal.out.items _ c.goal-item.result c.loop-goal.invariant c.loop-goal-test.true c.goal-item.is
    (c.in_ok-put_number.ensures ∙ ap (λ (n : ℕ). c.loop-goal.out.items ++ number_bytes 4 n) c.number_of.ensures)
