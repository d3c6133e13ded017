use Rattle.link_gen.proofs.Lists.{IsMapping}
use Rattle.link_gen.specs.Symbols.{undefined_weak}
use Rattle.link_gen.proofs.symbols.add_outside_weaks.Given as goal

abbrev pub invariant-loop-k : goal.invariant-loop-k
invariant-loop-k l = IsMapping undefined_weak l.outside l.fn.list.items l.k-index l.list.items
