use Rattle.std.proofs.Common.{sym, ◌∙◌}
use Rattle.arm64_insn.proofs.BranchLemmas.{held_in_bounds, held_below_reach, held_above_reach}
use Rattle.arm64_insn.proofs.is_branch_delta.Goals as goal
use Rattle.arm64_insn.proofs.is_branch_delta.Goals.{then-delta, else-delta}

pub returns-then-delta-lt-BRANCH_REACH : goal.returns-then-delta-lt-BRANCH_REACH
returns-then-delta-lt-BRANCH_REACH c =
    let passed = c.if-delta-lt-BRANCH_REACH.true in
    elim c.if-delta.branch [
      | then-delta w ↦ held_in_bounds c.args.delta c.ranges.delta w.if-delta.true (sym w.value-is ∙ passed)
      | else-delta w ↦ let failed = sym w.value-is ∙ passed in let known = w.if-delta.false in cc
    ]

pub returns-else-delta-lt-BRANCH_REACH : goal.returns-else-delta-lt-BRANCH_REACH
returns-else-delta-lt-BRANCH_REACH c =
    let failed = c.if-delta-lt-BRANCH_REACH.false in
    failed ∙ elim c.if-delta.branch [
      | then-delta w ↦ held_above_reach c.args.delta c.ranges.delta (sym w.value-is ∙ failed)
      | else-delta w ↦ held_below_reach c.args.delta c.ranges.delta w.if-delta.false
    ]
