use Rattle.std.proofs.Common.{◌≡◌, w64, true}
use Rattle.std.proofs.lemmas.Int.{to_z-of_z}
use Rattle.arm64_insn.specs.Branch.{is_branch_delta, branch_word}
use Rattle.arm64_insn.proofs.BranchLemmas.{branch_made, in_reach_tested, tested_in_reach, branch_of-branch_word, branch_word-same, put_branch-branch_word}
use Rattle.arm64_insn.proofs.put_branch.Goals as goal

pub returns-then-not-is_branch_delta-clause-in_reach :
    goal.returns-then-not-is_branch_delta-clause-in_reach
returns-then-not-is_branch_delta-clause-in_reach c h =
    let held = to_z-of_z w64 c.args.delta c.ranges.delta in
    let yes = in_reach_tested c.args.delta h in
    cc

tested : (c : goal.After-write) → is_branch_delta c.args.delta ≡ true
tested c = let held = to_z-of_z w64 c.args.delta c.ranges.delta in cc

made : (c : goal.After-write) → c.write.result ≡ branch_word c.args.word c.args.delta
made c =
    branch_made c.args.word c.args.delta c.twos_complement.result c.write.result c.ranges.delta
    c.twos_complement.ensures.value c.write.ensures

pub returns-clause-written : goal.returns-clause-written
returns-clause-written c = rw (tested c, made c)

pub returns-clause-in_reach : goal.returns-clause-in_reach
returns-clause-in_reach c = (tested_in_reach c.args.delta (tested c), made c)

pub returns-clause-read_back : goal.returns-clause-read_back
returns-clause-read_back c = rw (made c) (branch_of-branch_word c.args.word c.args.delta (tested_in_reach c.args.delta (tested c)))

pub returns-clause-others : goal.returns-clause-others
returns-clause-others c = rw (made c) (branch_word-same c.args.word c.args.delta)

pub returns-clause-last : goal.returns-clause-last
returns-clause-last c later = rw (made c) (put_branch-branch_word c.args.word c.args.delta later)
