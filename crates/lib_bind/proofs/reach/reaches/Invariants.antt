use Rattle.lib_bind.proofs.ReachLemmas.{AreFirst}
use Rattle.lib_bind.proofs.reach.reaches.Given as goal

abbrev pub invariant-loop-library : goal.invariant-loop-library
invariant-loop-library l = AreFirst l.libraries l.links l.reach.items l.library-index
