use Rattle.image_join.proofs.WritingLemmas.{IsWriting}
use Rattle.image_join.proofs.joining.write_parts.Given as goal

abbrev pub invariant-loop-part : goal.invariant-loop-part
invariant-loop-part l = IsWriting l.parts l.fn.image l.part-index l.image
