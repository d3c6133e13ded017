use Rattle.ref_meet.proofs.BindLemmas.{IsMost}
use Rattle.ref_meet.proofs.binds.most_binds.Given as goal

abbrev pub invariant-loop-file : goal.invariant-loop-file
invariant-loop-file l = IsMost l.slots l.files l.file-index l.most
