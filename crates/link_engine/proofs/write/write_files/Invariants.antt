use Rattle.std.proofs.Common.{◌≡◌, take}
use Rattle.mo_outside.specs.Tells.{Tells}
use Rattle.link_engine.specs.Writing.{AreFilesCalls, Hands, WritesAll}
use Rattle.link_engine.proofs.write.write_files.Given as goal

abbrev pub invariant-loop-number : goal.invariant-loop-number
invariant-loop-number g l = record {
  still : g.O.Out.faults l.out ≡ g.O.Out.faults l.fn.out;
  told : Tells (WritesAll (take l.number l.files)) (g.O.Out.files l.fn.out) (g.O.Out.files l.out);
  handed : Tells (Hands (AreFilesCalls (take l.number l.files))) (g.O.Out.calls l.fn.out) (g.O.Out.calls l.out);
}
