use Rattle.fixup_chain.proofs.UseLemmas.{IsLookingUp}
use Rattle.fixup_chain.proofs.targets.look_up.Given as goal

abbrev pub invariant-loop-at : goal.invariant-loop-at
invariant-loop-at l = IsLookingUp l.layout l.fixups l.initial.held l.from l.at l.held
