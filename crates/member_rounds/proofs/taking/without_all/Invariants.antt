use Rattle.member_rounds.proofs.TakeLemmas.{AreGone}
use Rattle.member_rounds.proofs.taking.without_all.Given as goal

abbrev pub invariant-loop-id : goal.invariant-loop-id
invariant-loop-id l = AreGone l.fn.before l.ids l.id-index l.left
