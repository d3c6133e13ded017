use Rattle.std.proofs.Common.{take}
use Rattle.islands.specs.Plan.{IsInAtom}
use Rattle.islands_tests.proofs.given.in_atom.Given as goal

abbrev pub invariant-loop-atom : goal.invariant-loop-atom
invariant-loop-atom l = IsInAtom (take l.atom-index l.kept) l.key l.place
