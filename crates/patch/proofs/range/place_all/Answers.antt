use Rattle.std.proofs.Common.{refl, ◌∙◌}
use Rattle.patch.proofs.LeastLemmas.{element_at}
use Rattle.patch.proofs.RangeLemmas.{one_fails, placing_fails, placing_goes_on, placing_stops}
use Rattle.patch.proofs.range.place_all.Goals.{in-Ok, in-Err-Range}
use Rattle.patch.proofs.range.place_all.Goals as goal

pub returns-in-Err-OutOfMemory-clause-beside : goal.returns-in-Err-OutOfMemory-clause-beside
returns-in-Err-OutOfMemory-clause-beside g c =
    placing_stops c.args.files.now (g.M.Meeting.mets_of c.args.meeting.now) c.args.from c.args.piece.now c.args.work.now c.loop-item.item-index c.loop-item.piece c.place_next.new.piece
    c.loop-item.least _ c.loop-item.invariant c.loop-item-test.true
    (element_at c.args.work.now c.loop-item.item-index _ _ c.loop-item-test.true)
    c.place_next.ensures.beside

pub loop-item-preserved : goal.loop-item-preserved
loop-item-preserved g c = elim c.match-place_next.branch [
  | in-Ok w ↦
      rw w.least-is (placing_goes_on c.args.files.now (g.M.Meeting.mets_of c.args.meeting.now) c.args.from c.args.piece.now c.args.work.now c.loop-item.item-index c.loop-item.piece c.place_next.new.piece
      c.loop-item.least _ c.place_next.result c.loop-item.invariant c.requires.work c.loop-item-test.true
      (element_at c.args.work.now c.loop-item.item-index _ _ c.loop-item-test.true)
      c.place_next.ensures.beside c.place_next.ensures.patched w.in-Ok.is)
  | in-Err-Range w ↦
      placing_fails c.args.files.now (g.M.Meeting.mets_of c.args.meeting.now) c.args.from c.args.piece.now c.args.work.now c.loop-item.item-index c.loop-item.piece c.place_next.new.piece
      c.loop-item.least _ c.place_next.result _ w.in-Err-Range.fault _ c.match-place_next.least
      c.loop-item.invariant c.loop-item-test.true
      (element_at c.args.work.now c.loop-item.item-index _ _ c.loop-item-test.true)
      c.place_next.ensures.beside c.place_next.ensures.patched w.in-Err-Range.is w.in-Err-Range.field-0-is
      refl (w.least-is ∙ w.lesser-least.ensures)
]

pub returns-clause-fault : goal.returns-clause-fault
returns-clause-fault g c = one_fails c.args.files.now (g.M.Meeting.mets_of c.args.meeting.now) c.args.from c.args.piece.now c.args.work.now c.loop-item.item-index c.loop-item.piece c.loop-item.least c.loop-item.invariant c.loop-item-test.false
