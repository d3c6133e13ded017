use Rattle.std.proofs.Common.{arith}
use Rattle.arm64_insn.proofs.FieldLemmas.{field_by_mask}
use Rattle.arm64_insn.proofs.field.BitField.write.Goals as goal

pub returns : goal.returns
returns c =
    field_by_mask c.args.self.low c.args.self.width c.args.word c.args.value
    c.args.self.ends_in_word c.args.self.narrow (omega arith) c.requires
