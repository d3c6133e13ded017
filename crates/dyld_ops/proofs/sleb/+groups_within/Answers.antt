use Rattle.std.proofs.Common.{sym, ◌∙◌, refl, arith}
use Rattle.dyld_ops.proofs.SlebLemmas.{group_fails, group_goes, group_stops, groups_short, groups_zero, are_groups_more, sum_fits}
use Rattle.dyld_ops.proofs.sleb.+groups_within.Goals as goal
use Rattle.dyld_ops.proofs.sleb.+groups_within.Goals.{then-most-gt0+else-byte-lt128, else-most-gt0}

pub returns-in-len1-up-clause-exact : goal.returns-in-len1-up-clause-exact
returns-in-len1-up-clause-exact t c =
    group_stops _ _ _ (omega (arith, c.if-most-gt0.true)) c.in-len1-up.len_at_least c.from.ensures (omega (arith, c.if-byte-lt128.true, c.from.ensures))

pub returns-in_err-high-in-len1-up-2-clause-exact :
    goal.returns-in_err-high-in-len1-up-2-clause-exact
returns-in_err-high-in-len1-up-2-clause-exact t c =
    c.from_residual.ensures
    ∙ group_fails _ _ (omega (arith, c.if-most-gt0-2.true)) c.in-len1-up.len_at_least
    (elim c.if-most-gt0.branch [
      | then-most-gt0+else-byte-lt128 w ↦ w.if-byte-lt128.false
      | else-most-gt0 w ↦ absurd (omega (arith, w.if-most-gt0.false, c.if-most-gt0-2.true))
    ])
    c.in_err-high-in-len1-up-2.ensures.exact

pub returns-in_ok-high-in-len1-up-2-clause-exact :
    goal.returns-in_ok-high-in-len1-up-2-clause-exact
returns-in_ok-high-in-len1-up-2-clause-exact t c =
    group_goes _ _ _ _ _ (omega (arith, c.if-most-gt0-2.true)) c.in-len1-up.len_at_least
    (elim c.if-most-gt0.branch [
      | then-most-gt0+else-byte-lt128 w ↦ w.if-byte-lt128.false
      | else-most-gt0 w ↦ absurd (omega (arith, w.if-most-gt0.false, c.if-most-gt0-2.true))
    ])
    c.from-in-len1-up-2.ensures c.in_ok-high-in-len1-up-2.ensures.exact

pub returns-in_ok-high-in-len1-up-2-clause-groups :
    goal.returns-in_ok-high-in-len1-up-2-clause-groups
returns-in_ok-high-in-len1-up-2-clause-groups t c =
    are_groups_more _ _ _ _ _ (omega (arith, c.if-most-gt0-2.true)) c.in-len1-up.len_at_least
    (omega (arith, c.from-in-len1-up-2.ensures, c.type_inv.bytes 0)) c.in_ok-high-in-len1-up-2.ensures.groups

pub returns-in_default-clause-exact : goal.returns-in_default-clause-exact
returns-in_default-clause-exact t c = groups_short _ _ c.in_default.len_below

pub returns-in_default-2-clause-exact : goal.returns-in_default-2-clause-exact
returns-in_default-2-clause-exact t c = groups_zero _ _ c.if-most-gt0-2.false
