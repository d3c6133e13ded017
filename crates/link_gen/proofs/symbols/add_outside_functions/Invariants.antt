use Rattle.link_gen.proofs.Lists.{IsMapping}
use Rattle.link_gen.specs.Symbols.{undefined_function}
use Rattle.link_gen.proofs.symbols.add_outside_functions.Given as goal

abbrev pub invariant-loop-i : goal.invariant-loop-i
invariant-loop-i l = IsMapping undefined_function l.outside l.fn.list.items l.i-index l.list.items
