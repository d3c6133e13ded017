use Rattle.fixup_chain.proofs.WideLemmas.{IsWidening}
use Rattle.fixup_chain.proofs.wide.gathered.Given as goal

abbrev pub invariant-loop-at : goal.invariant-loop-at
invariant-loop-at l = IsWidening l.fixups l.before l.at l.rows.keys l.held.items
