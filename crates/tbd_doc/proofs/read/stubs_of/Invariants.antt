use Rattle.tbd_doc.proofs.StubLemmas.{IsReading}
use Rattle.tbd_doc.proofs.read.stubs_of.Given as goal

abbrev pub invariant-loop-number : goal.invariant-loop-number
invariant-loop-number l = IsReading l.docs l.number l.stubs.items
