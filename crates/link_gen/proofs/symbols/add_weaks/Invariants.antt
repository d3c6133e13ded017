use Rattle.link_gen.proofs.WeakLemmas.{AreWeaks}
use Rattle.link_gen.proofs.symbols.add_weaks.Given as goal

abbrev pub invariant-loop-k : goal.invariant-loop-k
invariant-loop-k l = AreWeaks l.start l.weaks l.fn.list.items l.k-index l.place l.list.items
