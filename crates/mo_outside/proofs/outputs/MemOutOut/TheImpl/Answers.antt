use Rattle.std.proofs.Common.{arith}
use Rattle.std.proofs.lemmas.Grind.{common_steps}
use Rattle.mo_outside.proofs.Nothing.{takes_nothing}
use Rattle.mo_outside.proofs.outputs.MemOutOut.TheImpl.Goals as goal

pub write-tells : goal.write-tells
write-tells c = record {
  calls = grind (arith, common_steps);
  cut = grind (arith, common_steps);
  faults = c.ensures.faults;
  still = c.ensures.still;
  within = grind (arith, common_steps);
  some = grind (arith, common_steps);
  ok = grind (arith, common_steps);
  err = takes_nothing _ _ _ _ c.ensures.err;
  failed = grind (arith, common_steps);
}
