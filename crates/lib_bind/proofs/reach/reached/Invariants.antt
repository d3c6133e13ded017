use Rattle.lib_bind.proofs.ReachLemmas.{IsSearching}
use Rattle.lib_bind.proofs.reach.reached.Given as goal

abbrev pub invariant-loop-at : goal.invariant-loop-at
invariant-loop-at l = IsSearching l.links l.from l.found.keys l.at
