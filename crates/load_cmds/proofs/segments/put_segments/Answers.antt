use Rattle.std.proofs.Common.{ℕ, ◌+◌, ◌-◌, take, drop, ap, refl, ◌∙◌, arith}
use Rattle.std.proofs.lemmas.List.{get_or_default}
use Rattle.load_cmds.proofs.SegmentLemmas.{segmenting_goes_on}
use Rattle.load_cmds.proofs.segments.put_segments.Goals as goal

pub loop-i-preserved : goal.loop-i-preserved
loop-i-preserved c =
    segmenting_goes_on c.args.parts c.indirect_of-indirect.result.stubs c.indirect_of-indirect.result.slots c.args.segments.now c.args.sections.now c.args.out.now.items
    c.loop-i.i c.loop-i.first _ c.loop-i.out.items c.put_segment.new.out.items c.index-segments-i.result c.command_of-command.result _ _
    c.loop-i.invariant c.loop-i-test.true
    (c.index-segments-i.is ∙ get_or_default c.args.segments.now c.loop-i.i _ _ c.loop-i-test.true)
    refl refl c.command_of-command.ensures
    (ap (λ (n : ℕ). take n (drop c.loop-i.first c.args.sections.now)) (omega arith))
    c.in_ok-put_segment.ensures.bytes
