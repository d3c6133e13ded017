use Rattle.std.proofs.Common.{◌≡◌}
use Rattle.symbol_winners.specs.inner.Front.{front_number}
use Rattle.symbol_winners.proofs.front.number_of_few.Given as goal

abbrev pub invariant-loop-i : goal.invariant-loop-i
invariant-loop-i l = l.number ≡ front_number l.i l.name
