use Rattle.sign_adhoc.specs.Standing.{AreHashed}
use Rattle.sign_adhoc.proofs.checking.first_changed.Given as goal

abbrev pub invariant-loop-number : goal.invariant-loop-number
invariant-loop-number l = AreHashed l.image l.s l.number
