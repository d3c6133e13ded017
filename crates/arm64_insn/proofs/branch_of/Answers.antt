use Rattle.std.proofs.Common.{◌∙◌, ap}
use Rattle.arm64_insn.specs.Field.{sign_extended}
use Rattle.arm64_insn.proofs.BranchLemmas.{branch_read, branch_of-in_reach, put_branch-branch_of}
use Rattle.arm64_insn.proofs.branch_of.Goals as goal

pub returns-clause-value : goal.returns-clause-value
returns-clause-value c =
    branch_read c.args.word c.sign_extended.result
    (c.sign_extended.ensures.value ∙ ap (sign_extended 26) c.read.ensures.value)

pub returns-clause-in_reach : goal.returns-clause-in_reach
returns-clause-in_reach c = rw (returns-clause-value c) (branch_of-in_reach c.args.word)

pub returns-clause-written_back : goal.returns-clause-written_back
returns-clause-written_back c = rw (returns-clause-value c) (put_branch-branch_of c.args.word)
