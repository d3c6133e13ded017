use Rattle.std.proofs.Common.{◌∙◌}
use Rattle.arm64_insn.proofs.Low12Lemmas.{low12_by_shift, put_low12-low12_of}
use Rattle.arm64_insn.proofs.low12_of.Goals as goal

pub returns-clause-value : goal.returns-clause-value
returns-clause-value c =
    low12_by_shift c.args.word c.from.result c.imm12_scale.result (c.from.ensures ∙ c.read.ensures.value)
    c.imm12_scale.ensures.value c.imm12_scale.ensures.small

pub returns-clause-written_back : goal.returns-clause-written_back
returns-clause-written_back c = put_low12-low12_of c.args.word _ (returns-clause-value c)
