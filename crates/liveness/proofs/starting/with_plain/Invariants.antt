use Rattle.liveness.specs.Roots.{plain_root}
use Rattle.symbol_winners.proofs.PickLemmas.{IsPicking}
use Rattle.liveness.proofs.starting.with_plain.Given as goal

abbrev pub invariant-loop-atom : goal.invariant-loop-atom
invariant-loop-atom l = IsPicking (plain_root l.symbols.literals l.external l.winning) l.fn.before.items l.roots.items l.atoms l.atom-index
