use Rattle.liveness.specs.Roots.{name_root}
use Rattle.symbol_winners.proofs.PickLemmas.{IsPicking}
use Rattle.liveness.proofs.starting.with_names.Given as goal

abbrev pub invariant-loop-name : goal.invariant-loop-name
invariant-loop-name l = IsPicking (name_root l.symbols) l.fn.before.items l.roots.items l.names l.name-index
