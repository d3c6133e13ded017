use Rattle.mo_bytes.proofs.Ulebs.{IsReading}
use Rattle.mo_bytes.proofs.uleb.number_in_front.Given as goal

abbrev pub invariant-loop-count : goal.invariant-loop-count
invariant-loop-count l = IsReading l.bytes l.value l.count
