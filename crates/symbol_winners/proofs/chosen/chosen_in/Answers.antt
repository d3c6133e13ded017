use Rattle.std.proofs.Common.{sym, ◌∙◌}
use Rattle.symbol_winners.proofs.ChosenLemmas.{chosen_add, chosen_pass}
use Rattle.symbol_winners.proofs.chosen.chosen_in.Goals as goal
use Rattle.symbol_winners.proofs.chosen.chosen_in.Goals.{in-Some+in_ok-push, in_default}

pub loop-best-preserved : goal.loop-best-preserved
loop-best-preserved c = elim c.match-of.branch [
  | in-Some+in_ok-push w ↦
      rw w.list-is (chosen_add c.loop-best.list.items w.push.new.self.items c.args.table.now c.loop-best.best-index c.best-item.result c.best-item.result w.in-Some.keyed c.loop-best-test.true c.best-item.is c.loop-best.invariant (sym w.in-Some.is ∙ c.of.ensures) w.in_ok-push.ensures.items)
  | in_default w ↦
      rw w.list-is (chosen_pass c.loop-best.list.items c.args.table.now c.loop-best.best-index c.best-item.result c.best-item.result c.loop-best-test.true c.best-item.is c.loop-best.invariant (sym w.in_default.is ∙ c.of.ensures))
]
