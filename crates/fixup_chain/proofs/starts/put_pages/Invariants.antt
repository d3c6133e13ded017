use Rattle.fixup_chain.proofs.StartLemmas.{IsPaging}
use Rattle.fixup_chain.proofs.starts.put_pages.Given as goal

abbrev pub invariant-loop-at : goal.invariant-loop-at
invariant-loop-at l = IsPaging l.fixups l.page l.count l.fn.out.items l.at l.out.items
