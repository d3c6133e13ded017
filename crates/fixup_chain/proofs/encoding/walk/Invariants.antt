use Rattle.fixup_chain.specs.inner.Held.{imports_in}
use Rattle.fixup_chain.proofs.WalkLemmas.{IsWalk}
use Rattle.fixup_chain.proofs.encoding.walk.Given as goal

abbrev pub invariant-loop-at : goal.invariant-loop-at
invariant-loop-at l = IsWalk l.layout l.wide (imports_in l.wide l.fixups) l.fixups l.at l.words.items l.first
