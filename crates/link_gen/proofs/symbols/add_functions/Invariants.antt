use Rattle.link_gen.proofs.Lists.{IsListing}
use Rattle.link_gen.specs.Symbols.{function_symbol}
use Rattle.link_gen.proofs.symbols.add_functions.Given as goal

abbrev pub invariant-loop-k : goal.invariant-loop-k
invariant-loop-k l = IsListing (function_symbol l.fn.made) l.fn.list.items l.k l.list.items
