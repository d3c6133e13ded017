-- Where the refusal is known, its line is what the call in that arm puts.
use Rattle.mo_types.specs.Message.{line_of_refusal}
use Rattle.mo_message.proofs.message.put_refusal.Goals as goal

pub returns-in-Duplicate-clause-ok : goal.returns-in-Duplicate-clause-ok
unfolding line_of_refusal
returns-in-Duplicate-clause-ok g c =
    rw (c.in-Duplicate.is, ← c.as_slice-in-Duplicate.ensures, ← c.as_slice-in-Duplicate-2.ensures, ← c.as_slice-in-Duplicate-3.ensures)
    c.put_line_of_three-in-Duplicate.ensures.ok

pub returns-in-Duplicate-clause-err : goal.returns-in-Duplicate-clause-err
unfolding line_of_refusal
returns-in-Duplicate-clause-err g c =
    rw (c.in-Duplicate.is, ← c.as_slice-in-Duplicate.ensures, ← c.as_slice-in-Duplicate-2.ensures, ← c.as_slice-in-Duplicate-3.ensures)
    c.put_line_of_three-in-Duplicate.ensures.err
