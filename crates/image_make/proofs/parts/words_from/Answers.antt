use Rattle.std.proofs.Common.{length, ap}
use Rattle.image_make.proofs.SlotLemmas.{slot_more, slots_end}
use Rattle.image_make.proofs.parts.words_from.Goals as goal

pub loop-number-preserved : goal.loop-number-preserved
loop-number-preserved c = slot_more c.args.words.now c.args.start c.args.goals.now c.loop-number.bytes.items c.put_slot.new.out.items c.loop-number.number (length c.as_slice-count.result.now) c.loop-number.invariant c.loop-number-test.true (ap length c.as_slice-count.ensures.all) c.in_ok-put_slot.ensures

pub returns : goal.returns
returns c = slots_end c.args.words.now c.args.start c.args.goals.now c.loop-number.bytes.items c.loop-number.number (length c.as_slice-count.result.now) c.loop-number.invariant c.loop-number-test.false (ap length c.as_slice-count.ensures.all)
