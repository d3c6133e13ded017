use Rattle.fixup_chain.proofs.UseLemmas.{IsCollectingAhead}
use Rattle.fixup_chain.proofs.imports.collect.Given as goal

abbrev pub invariant-loop-at : goal.invariant-loop-at
invariant-loop-at l = IsCollectingAhead l.layout l.fixups l.at l.imports.keys l.held l.large l.ready
