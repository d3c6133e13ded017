use Rattle.unwind_out.proofs.Cutting.{IsMeeting}
use Rattle.unwind_out.proofs.cut.most_rows.Given as goal

abbrev pub invariant-loop-at : goal.invariant-loop-at
invariant-loop-at l = IsMeeting l.rows l.at l.numbers.items l.guesses
