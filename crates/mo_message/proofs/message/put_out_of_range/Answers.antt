-- The file comes first, and then the rest of the line, whose pieces are grouped anew.
use Rattle.std.proofs.Common.{append_assoc, ◌++◌, codes}
use Rattle.std.proofs.lemmas.Result.{err_from_is_err_and}
use Rattle.mo_message.proofs.Prefixes.{puts_both, stops_in_first, stops_in_rest}
use Rattle.mo_message.proofs.message.put_out_of_range.Goals as goal

pub returns-in_err-put_pair-clause-err : goal.returns-in_err-put_pair-clause-err
returns-in_err-put_pair-clause-err g c =
    let p = err_from_is_err_and c.from_residual.result c.from_residual.ensures.1 in
    rw p.1
    (stops_in_first (codes "atomld: " ++ c.args.file.now)
    (codes ": out of range at " ++ c.args.place.now ++ codes ": " ++ c.args.kind.now ++ codes " " ++ c.args.value.now ++ codes "\n") _ _ _
    c.in_err-put_pair.ensures.err (simp append_assoc))

pub returns-clause-ok : goal.returns-clause-ok
returns-clause-ok g c = puts_both _ _ _ _ _ _ _ c.in_ok-put_pair.ensures.ok c.put_line_of_three.ensures.ok (simp append_assoc)

pub returns-clause-err : goal.returns-clause-err
returns-clause-err g c = stops_in_rest _ _ _ _ _ _ _ c.in_ok-put_pair.ensures.ok c.put_line_of_three.ensures.err (simp append_assoc)
