use Rattle.dylib_read.proofs.HeadLemmas.{IsCollecting}
use Rattle.dylib_read.proofs.head.reexports_of.Given as goal

abbrev pub invariant-loop-at : goal.invariant-loop-at
invariant-loop-at l = IsCollecting l.file l.places l.at-index l.names
