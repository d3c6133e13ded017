use Rattle.std.proofs.Common.{refl}
use Rattle.islands.proofs.Few.{few_ends, few_met, few_pushed, few_starts}
use Rattle.islands.proofs.numbering.gather.Goals as goal
use Rattle.islands.proofs.numbering.gather.Goals.{in-Ok+in_ok-push-in-Ok, in-Err+in_ok-push-in-Err+in_ok-push-in-Err-2}

pub loop-branch-init : goal.loop-branch-init
loop-branch-init c = few_starts c.new-keyed.result.items c.new-keyed.ensures.items

pub loop-branch-preserved : goal.loop-branch-preserved
loop-branch-preserved c =
    elim c.match-look.branch [
      | in-Ok+in_ok-push-in-Ok w ↦ rw w.keyed-is (few_met c.args.branches.now c.loop-branch.branch-index c.branch-item.result c.loop-branch.keyed.items c.as_slice.result.now c.loop-branch.invariant c.loop-branch-test.true c.branch-item.is c.as_slice.ensures.value w.in-Ok.ensures)
      | in-Err+in_ok-push-in-Err+in_ok-push-in-Err-2 w ↦ rw w.keyed-is (few_pushed c.args.branches.now c.loop-branch.branch-index c.branch-item.result c.loop-branch.keyed.items w.push-in-Err-2.new.self.items _ c.loop-branch.invariant c.loop-branch-test.true c.branch-item.is refl w.in_ok-push-in-Err-2.ensures.items)
    ]

pub returns : goal.returns
returns c = few_ends c.args.branches.now c.loop-branch.branch-index c.loop-branch.keyed.items c.loop-branch.invariant c.loop-branch-test.false
