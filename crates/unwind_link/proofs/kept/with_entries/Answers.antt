use Rattle.unwind_link.proofs.KeptLemmas.{entries_end}
use Rattle.unwind_link.proofs.kept.with_entries.Goals as goal

pub returns : goal.returns
returns c = entries_end c.args.keys.now c.args.file c.args.before.items c.loop-unwind.kept.items c.args.unwinds.now c.loop-unwind.unwind-index c.loop-unwind.invariant c.loop-unwind-test.false
