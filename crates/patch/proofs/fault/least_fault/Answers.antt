use Rattle.std.proofs.Common.{◌∙◌, refl}
use Rattle.patch.proofs.LeastLemmas.{element_at, least_stays, least_takes}
use Rattle.patch.proofs.fault.least_fault.Goals.{in-Some, in_default}
use Rattle.patch.proofs.fault.least_fault.Goals as goal

pub loop-met-preserved : goal.loop-met-preserved
loop-met-preserved c = elim c.match-fault_of.branch [
  | in-Some w ↦
      least_takes c.args.address c.args.bytes.now c.args.mets.now c.loop-met.met-index c.loop-met.least _
      c.fault_of.result w.in-Some.fault _ c.match-fault_of.least c.loop-met.invariant c.loop-met-test.true
      (element_at c.args.mets.now c.loop-met.met-index _ _ c.loop-met-test.true)
      c.fault_of.ensures w.in-Some.is refl (w.least-is ∙ w.earlier-least.ensures)
  | in_default w ↦
      rw w.least-is (least_stays c.args.address c.args.bytes.now c.args.mets.now c.loop-met.met-index c.loop-met.least _
      c.fault_of.result c.loop-met.invariant c.loop-met-test.true
      (element_at c.args.mets.now c.loop-met.met-index _ _ c.loop-met-test.true)
      c.fault_of.ensures w.in_default.is)
]
