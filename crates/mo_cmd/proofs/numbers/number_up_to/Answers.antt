use Rattle.std.proofs.Common.{sym, refl}
use Rattle.std.proofs.lemmas.Grind.{get_or_default_zero}
use Rattle.mo_cmd.proofs.NumberLemmas.{count_fails, count_passes}
use Rattle.mo_cmd.proofs.numbers.number_up_to.Goals as goal

pub returns-then-number-most-clause-exact : goal.returns-then-number-most-clause-exact
returns-then-number-most-clause-exact c =
    count_passes _ _ _ _ _ _ _ _ c.loop-byte.invariant.counting c.requires.base.0 c.loop-byte-test.true
    (sym (get_or_default_zero c.args.text.now c.loop-byte.byte-index _ c.loop-byte-test.true)) c.in-Some.ensures.exact refl c.if-number-most.true

pub returns-in-None-clause-exact : goal.returns-in-None-clause-exact
returns-in-None-clause-exact c =
    count_fails _ _ _ _ _ _ c.loop-byte.invariant.counting c.loop-byte-test.true
    (sym (get_or_default_zero c.args.text.now c.loop-byte.byte-index _ c.loop-byte-test.true)) c.in-None.ensures.exact
