use Rattle.arm64_insn.proofs.FieldLemmas.{field_by_shift, field_at-lt}
use Rattle.arm64_insn.proofs.field.BitField.read.Goals as goal

pub returns-clause-value : goal.returns-clause-value
returns-clause-value c = field_by_shift c.args.self.low c.args.self.width c.args.word c.args.self.narrow

pub returns-clause-fits : goal.returns-clause-fits
returns-clause-fits c = rw (returns-clause-value c) (field_at-lt c.args.self.low c.args.self.width c.args.word)
