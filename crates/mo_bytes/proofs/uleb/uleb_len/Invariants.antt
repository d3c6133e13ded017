use Rattle.std.proofs.Common.{◌≡◌, ◌+◌, length}
use Rattle.mo_bytes.specs.Uleb.{uleb}
use Rattle.mo_bytes.proofs.uleb.uleb_len.Given as goal

abbrev pub invariant-loop-rest : goal.invariant-loop-rest
invariant-loop-rest l = l.count + length (uleb l.rest) ≡ length (uleb l.value) + 1

abbrev pub decreases-loop-rest : goal.decreases-loop-rest
decreases-loop-rest l = l.rest
