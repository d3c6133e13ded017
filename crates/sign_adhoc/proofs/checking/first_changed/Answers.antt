use Rattle.std.proofs.Common.{arith}
use Rattle.sign_adhoc.proofs.StandingLemmas.{number_fits}
use Rattle.sign_adhoc.proofs.checking.first_changed.Goals as goal

pub overflow_cast-result : goal.overflow_cast-result
overflow_cast-result c =
    let is = c.page_count-number-end.ensures in
    let low = number_fits c.args.s.from c.loop-number.number (omega arith) c.requires.few.0 in
    omega arith
