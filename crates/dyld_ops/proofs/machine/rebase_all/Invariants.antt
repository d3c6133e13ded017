use Rattle.dyld_ops.proofs.MachineLemmas.{IsRebasing}
use Rattle.dyld_ops.proofs.machine.rebase_all.Given as goal

abbrev pub invariant-loop : goal.invariant-loop
invariant-loop l = IsRebasing l.image l.at l.count l.counter l.fn.machine l.machine
