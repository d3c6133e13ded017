use Rattle.std.proofs.Common.{arith}
use Rattle.mo_bytes.proofs.Multiples.{whole_below, whole_is_least, past_below, past_is_least, whole_near, past_near, past_fits}
use Rattle.mo_bytes.proofs.rounding.round_up.Goals as goal

pub returns-then-past-eq0-clause-exact : goal.returns-then-past-eq0-clause-exact
returns-then-past-eq0-clause-exact c = whole_below _ _ _ _ c.power_of_two-unit.ensures c.if-past-eq0.true (omega arith)

pub returns-then-past-eq0-clause-least : goal.returns-then-past-eq0-clause-least
returns-then-past-eq0-clause-least c = whole_is_least _ _ _ c.power_of_two-unit.ensures c.if-past-eq0.true

pub returns-clause-exact : goal.returns-clause-exact
returns-clause-exact c = past_below _ _ _ _ _ c.power_of_two-unit.ensures c.if-past-eq0.false c.checked_add.ensures

pub returns-clause-least : goal.returns-clause-least
returns-clause-least c = past_is_least _ _ _ _ _ c.power_of_two-unit.ensures c.if-past-eq0.false c.checked_add.ensures

pub returns-then-past-eq0-clause-near : goal.returns-then-past-eq0-clause-near
returns-then-past-eq0-clause-near c = whole_near _ _ _ c.power_of_two-unit.ensures

pub returns-clause-near : goal.returns-clause-near
returns-clause-near c = past_near _ _ _ _ _ c.power_of_two-unit.ensures c.if-past-eq0.false c.checked_add.ensures

pub returns-clause-fits : goal.returns-clause-fits
returns-clause-fits c = past_fits _ _ _ _ _ c.power_of_two-unit.ensures c.if-past-eq0.false c.checked_add.ensures
