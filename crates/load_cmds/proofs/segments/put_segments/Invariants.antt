use Rattle.load_cmds.proofs.SegmentLemmas.{IsSegmenting}
use Rattle.load_cmds.proofs.segments.put_segments.Given as goal

abbrev pub invariant-loop-i : goal.invariant-loop-i
invariant-loop-i l = IsSegmenting l.parts l.indirect.stubs l.indirect.slots l.segments l.sections l.fn.out.items l.i l.first l.out.items
