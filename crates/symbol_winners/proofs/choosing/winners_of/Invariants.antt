use Rattle.command_line.specs.declared.command.Command.{Command}
use Rattle.symbol_winners.specs.inner.Index.{AreRules}
use Rattle.symbol_winners.proofs.ListSteps.{AreUpTo}
use Rattle.symbol_winners.proofs.choosing.winners_of.Given as goal

abbrev pub invariant-loop-one : goal.invariant-loop-one
invariant-loop-one l = (command : Command) → AreRules command l.rules → AreUpTo command l.chosen l.one-index l.list.items
