use Rattle.symbol_winners.specs.inner.Tables.{IsLeastOf}
use Rattle.symbol_winners.proofs.duplicates.least.Given as goal

abbrev pub invariant-loop-i : goal.invariant-loop-i
invariant-loop-i l = IsLeastOf l.names l.table l.i l.best
