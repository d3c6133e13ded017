-- A fault in what comes after the first pair leaves a first part of the whole line.
use Rattle.std.proofs.Common.{append_assoc}
use Rattle.mo_message.proofs.Prefixes.{stops_in_rest}
use Rattle.mo_message.proofs.pieces.put_line_of_two.Goals as goal

pub returns-clause-err : goal.returns-clause-err
returns-clause-err g c = stops_in_rest _ _ _ _ _ _ _ c.in_ok-put_pair.ensures.ok c.put_line.ensures.err (simp append_assoc)
