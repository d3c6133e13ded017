use Rattle.link_gen.proofs.EntryLemmas.{AreEntries}
use Rattle.link_gen.proofs.symbols.put_entries.Given as goal

abbrev pub invariant-loop-symbol : goal.invariant-loop-symbol
invariant-loop-symbol l = AreEntries l.list l.fn.out.items l.symbol-index l.at l.out.items
