use Rattle.link_gen.proofs.FilterLemmas.{IsFilteringRange}
use Rattle.link_gen.specs.Calls.{has_weak}
use Rattle.link_gen.proofs.calls.own_weaks.Given as goal

abbrev pub invariant-loop-k : goal.invariant-loop-k
invariant-loop-k l = IsFilteringRange (has_weak l.made) l.k l.weaks.items
