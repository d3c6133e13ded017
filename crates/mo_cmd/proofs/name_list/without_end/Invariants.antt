use Rattle.std.proofs.Common.{length}
use Rattle.mo_cmd.proofs.LineLemmas.{IsEnding}
use Rattle.mo_cmd.proofs.name_list.without_end.Given as goal

abbrev pub invariant-loop-rest : goal.invariant-loop-rest
invariant-loop-rest l = IsEnding l.line l.rest

abbrev pub decreases-loop-rest : goal.decreases-loop-rest
decreases-loop-rest l = length l.rest
