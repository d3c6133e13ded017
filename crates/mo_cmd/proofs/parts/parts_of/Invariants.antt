use Rattle.mo_cmd.proofs.PartLemmas.{IsWalking}
use Rattle.mo_cmd.proofs.parts.parts_of.Given as goal

abbrev pub invariant-loop-at : goal.invariant-loop-at
invariant-loop-at l = IsWalking l.rows l.words l.at l.skipped l.found
