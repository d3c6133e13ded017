use Rattle.member_rounds.proofs.TakeLemmas.{AreListed}
use Rattle.member_rounds.proofs.taking.set_of.Given as goal

abbrev pub invariant-loop-id : goal.invariant-loop-id
invariant-loop-id l = AreListed l.ids l.id-index l.set
