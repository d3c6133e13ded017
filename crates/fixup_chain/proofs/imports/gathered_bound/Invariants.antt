use Rattle.fixup_chain.proofs.UseLemmas.{IsHolding}
use Rattle.fixup_chain.proofs.imports.gathered_bound.Given as goal

abbrev pub invariant-loop-fixup : goal.invariant-loop-fixup
invariant-loop-fixup l = IsHolding l.fixups l.fixup-index l.imports.keys l.held.items l.large
