use Rattle.link_gen.proofs.EntryLemmas.{AreStrings}
use Rattle.link_gen.proofs.symbols.strings_of.Given as goal

abbrev pub invariant-loop-symbol : goal.invariant-loop-symbol
invariant-loop-symbol l = AreStrings l.list l.symbol-index l.strings.items
