use Rattle.std.specs.Prelude.{zip}
use Rattle.lib_bind.proofs.ReachedLemmas.{IsIndexing}
use Rattle.lib_bind.proofs.fill.index_of.Given as goal

abbrev pub invariant-loop-at : goal.invariant-loop-at
invariant-loop-at l = IsIndexing l.documents (zip l.libraries l.reach) l.at l.filling
