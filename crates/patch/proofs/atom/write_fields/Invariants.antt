use Rattle.patch.proofs.WriteLemmas.{IsWriting}
use Rattle.patch.proofs.atom.write_fields.Given as goal

abbrev pub invariant-loop-met : goal.invariant-loop-met
invariant-loop-met l = IsWriting l.address l.fn.bytes l.mets l.met-index l.bytes
