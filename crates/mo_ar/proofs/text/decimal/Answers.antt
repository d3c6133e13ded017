-- A digit more is read.
use Rattle.std.proofs.Common.{get_or, refl, sym, ◌∙◌}
use Rattle.mo_ar.proofs.TextLemmas.{spell_goes_on}
use Rattle.mo_ar.proofs.text.decimal.Goals as goal

pub loop-digit-preserved : goal.loop-digit-preserved
loop-digit-preserved c =
    rw c.from.ensures
    (spell_goes_on c.args.text.now c.loop-digit.digit-index c.loop-digit.number (get_or c.args.text.now c.loop-digit.digit-index 0) c.loop-digit.invariant c.loop-digit-test.true refl
    (sym c.is_ascii_digit.ensures.value ∙ c.if-not-is_ascii_digit.false))
