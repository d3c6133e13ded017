use Rattle.std.proofs.Common.{take}
use Rattle.lib_bind.proofs.ReachedLemmas.{IsFilling}
use Rattle.lib_bind.proofs.fill.add_reached.Given as goal

abbrev pub invariant-loop-document : goal.invariant-loop-document
invariant-loop-document l = IsFilling l.documents l.library l.fn.before l.filling (take l.document-index l.reached)
