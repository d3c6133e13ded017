use Rattle.unwind_out.specs.Lookup.{lsda_row}
use Rattle.unwind_out.proofs.Places.{IsPassing}
use Rattle.unwind_out.proofs.lookup.lsda_among.Given as goal

abbrev pub invariant-loop-k : goal.invariant-loop-k
invariant-loop-k l = IsPassing (lsda_row l.section) 8 l.first l.count l.function l.k
