use Rattle.mo_types.proofs.Scanning.{IsScanning}
use Rattle.mo_cmd.specs.Faults.{fault_of}
use Rattle.mo_cmd.proofs.faults.first_fault.Given as goal

abbrev pub invariant-loop-part : goal.invariant-loop-part
invariant-loop-part l = IsScanning (fault_of l.whole l.words) l.parts l.part-index
