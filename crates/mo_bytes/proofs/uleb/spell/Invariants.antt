use Rattle.std.proofs.Common.{◌≤◌}
use Rattle.mo_bytes.proofs.Ulebs.{IsSpelling}
use Rattle.mo_bytes.proofs.uleb.spell.Given as goal

abbrev pub invariant-loop-rest : goal.invariant-loop-rest
invariant-loop-rest l = record {
  spelling : IsSpelling l.bytes l.value l.count l.rest;
  few : l.count ≤ 10;
}

abbrev pub decreases-loop-rest : goal.decreases-loop-rest
decreases-loop-rest l = l.rest
