use Rattle.std.proofs.Common.{w64, ap, ◌∙◌}
use Rattle.std.specs.Int.{cast_unsigned}
use Rattle.std.proofs.lemmas.Int.{to_z-of_z}
use Rattle.arm64_insn.proofs.FieldLemmas.{twos_complement_by_mask}
use Rattle.arm64_insn.proofs.field.twos_complement.Goals as goal

pub returns-clause-value : goal.returns-clause-value
returns-clause-value c =
    twos_complement_by_mask c.args.width c.args.number c.cast_unsigned.result c.requires c.ranges.number
    (c.cast_unsigned.ensures ∙ ap (cast_unsigned w64) (to_z-of_z w64 c.args.number c.ranges.number))
