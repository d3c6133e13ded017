use Rattle.std.proofs.Common.{arith}
use Rattle.arm64_insn.proofs.FieldLemmas.{sign_clear_held, sign_set_held}
use Rattle.arm64_insn.proofs.field.sign_extended.Goals as goal

pub returns-then-bits-width-clause-value : goal.returns-then-bits-width-clause-value
returns-then-bits-width-clause-value c =
    sign_clear_held c.args.width c.args.bits _ c.requires.in_word (omega arith) c.from.ensures c.if-bits-width.true

pub returns-else-bits-width-clause-value : goal.returns-else-bits-width-clause-value
returns-else-bits-width-clause-value c =
    sign_set_held c.args.width c.args.bits _ c.requires.in_word (omega arith) c.from-else-bits-width.ensures
    c.requires.fits c.if-bits-width.false
