use Rattle.lib_bind.proofs.GrowingLemmas.{IsPlacing}
use Rattle.lib_bind.proofs.growing.places_of.Given as goal

abbrev pub invariant-loop-at : goal.invariant-loop-at
invariant-loop-at l = IsPlacing l.first l.stubs l.at l.places
