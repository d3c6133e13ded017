use Rattle.mo_types.proofs.Scanning.{IsScanning}
use Rattle.load_cmds.specs.Segments.{size_if_own}
use Rattle.load_cmds.proofs.sections.first_own.Given as goal

abbrev pub invariant-loop-placed : goal.invariant-loop-placed
invariant-loop-placed l = IsScanning (size_if_own l.kind) l.sections l.placed-index
