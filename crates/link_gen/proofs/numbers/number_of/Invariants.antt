use Rattle.link_gen.proofs.NumberLemmas.{IsSearching}
use Rattle.link_gen.proofs.numbers.number_of.Given as goal

abbrev pub invariant-loop-number : goal.invariant-loop-number
invariant-loop-number l = IsSearching l.name l.list l.number
