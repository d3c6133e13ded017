use Rattle.patch.proofs.RangeLemmas.{IsPlacing}
use Rattle.patch.proofs.range.place_all.Given as goal

abbrev pub invariant-loop-item : goal.invariant-loop-item
invariant-loop-item g l = IsPlacing l.files (g.M.Meeting.mets_of l.meeting) l.from l.fn.piece l.work l.item-index l.piece l.least
