use Rattle.std.proofs.Common.{[]}
use Rattle.link_gen.proofs.Lists.{IsMapping}
use Rattle.link_gen.specs.Symbols.{number_of_function}
use Rattle.link_gen.proofs.numbers.function_numbers.Given as goal

abbrev pub invariant-loop-i : goal.invariant-loop-i
invariant-loop-i l = IsMapping (number_of_function l.fn.made) l.drawn [] l.i-index l.numbers.items
