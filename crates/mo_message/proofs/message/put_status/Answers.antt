-- Where the answer is known, its line is what the call in that arm puts.
use Rattle.mo_types.specs.Message.{line_of}
use Rattle.mo_message.proofs.message.put_status.Goals as goal

pub returns-in-ReadFault-clause-ok : goal.returns-in-ReadFault-clause-ok
unfolding line_of
returns-in-ReadFault-clause-ok g c = rw c.in-ReadFault.is (rw c.as_slice.ensures at c.put_line.ensures.ok)

pub returns-in-ReadFault-clause-err : goal.returns-in-ReadFault-clause-err
unfolding line_of
returns-in-ReadFault-clause-err g c = rw c.in-ReadFault.is (rw c.as_slice.ensures at c.put_line.ensures.err)

pub returns-in-WriteFault-clause-ok : goal.returns-in-WriteFault-clause-ok
unfolding line_of
returns-in-WriteFault-clause-ok g c = rw c.in-WriteFault.is c.put_line-in-WriteFault.ensures.ok

pub returns-in-WriteFault-clause-err : goal.returns-in-WriteFault-clause-err
unfolding line_of
returns-in-WriteFault-clause-err g c = rw c.in-WriteFault.is c.put_line-in-WriteFault.ensures.err

pub returns-in-OutOfMemory-clause-ok : goal.returns-in-OutOfMemory-clause-ok
unfolding line_of
returns-in-OutOfMemory-clause-ok g c = rw c.in-OutOfMemory.is c.put.ensures.ok

pub returns-in-OutOfMemory-clause-err : goal.returns-in-OutOfMemory-clause-err
unfolding line_of
returns-in-OutOfMemory-clause-err g c = rw c.in-OutOfMemory.is c.put.ensures.err
