use Rattle.std.proofs.Common.{◌≡◌, ◌-◌, ◌≤◌, length, drop}
use Rattle.mo_outside.specs.Tells.{Tells}
use Rattle.mo_outside.specs.Written.{Takes}
use Rattle.link_engine.specs.Writing.{AreWrites, Hands}
use Rattle.link_engine.proofs.write.write_all.Given as goal

abbrev pub invariant-loop-at : goal.invariant-loop-at
invariant-loop-at g l = record {
  within : l.at ≤ length l.bytes;
  still : g.O.Out.faults l.out ≡ g.O.Out.faults l.fn.out;
  told : Tells (Takes l.bytes l.at) (g.O.Out.files l.fn.out) (g.O.Out.files l.out);
  handed : Tells (Hands (AreWrites l.bytes (drop l.at l.bytes))) (g.O.Out.calls l.fn.out) (g.O.Out.calls l.out);
}

abbrev pub decreases-loop-at : goal.decreases-loop-at
decreases-loop-at g l = length l.bytes - l.at
