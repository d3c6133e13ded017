use Rattle.std.proofs.Common.{not}
use Rattle.link_gen.proofs.FilterLemmas.{IsFilteringRange}
use Rattle.link_gen.specs.Calls.{has_weak}
use Rattle.link_gen.proofs.calls.outside_weaks.Given as goal

abbrev pub invariant-loop-k : goal.invariant-loop-k
invariant-loop-k l = IsFilteringRange (λ k. not (has_weak l.made k)) l.k l.weaks.items
