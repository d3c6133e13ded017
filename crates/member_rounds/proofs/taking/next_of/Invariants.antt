use Rattle.member_rounds.proofs.TakeLemmas.{AreTaken}
use Rattle.member_rounds.proofs.taking.next_of.Given as goal

abbrev pub invariant-loop-id : goal.invariant-loop-id
invariant-loop-id l = AreTaken l.left l.asked l.id-index l.next
