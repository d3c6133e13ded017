-- The first pair comes first, and then the rest of the line, whose pieces are grouped anew.
use Rattle.std.proofs.Common.{append_assoc}
use Rattle.mo_message.proofs.Prefixes.{puts_both, stops_in_rest}
use Rattle.mo_message.proofs.pieces.put_line_of_three.Goals as goal

pub returns-clause-ok : goal.returns-clause-ok
returns-clause-ok g c = puts_both _ _ _ _ _ _ _ c.in_ok-put_pair.ensures.ok c.put_line_of_two.ensures.ok (simp append_assoc)

pub returns-clause-err : goal.returns-clause-err
returns-clause-err g c = stops_in_rest _ _ _ _ _ _ _ c.in_ok-put_pair.ensures.ok c.put_line_of_two.ensures.err (simp append_assoc)
