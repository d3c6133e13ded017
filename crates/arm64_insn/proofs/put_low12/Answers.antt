use Rattle.std.proofs.Common.{◌≡◌, eq-eqb}
use Rattle.arm64_insn.specs.Low12.{low12_word, IsWholeSteps}
use Rattle.arm64_insn.proofs.Low12Lemmas.{low12_made, low12_of-low12_word, low12_word-same, put_low12-low12_word}
use Rattle.arm64_insn.proofs.put_low12.Goals as goal

made : (c : goal.After-write) → IsWholeSteps c.args.word c.args.target × (c.write.result ≡ low12_word c.args.word c.args.target)
made c =
    low12_made c.args.word c.args.target c.imm12_scale-step.result c.write.result c.imm12_scale-step.ensures.value
    c.imm12_scale-step.ensures.small c.if-low-step-ne0.false c.write.ensures

pub returns-clause-written : goal.returns-clause-written
returns-clause-written c = let m = made c in rw (eq-eqb _ _ m.0, m.1)

pub returns-clause-in_form : goal.returns-clause-in_form
returns-clause-in_form c = made c

pub returns-clause-read_back : goal.returns-clause-read_back
returns-clause-read_back c = let m = made c in rw m.1 (low12_of-low12_word c.args.word c.args.target m.0)

pub returns-clause-others : goal.returns-clause-others
returns-clause-others c = let m = made c in rw m.1 (low12_word-same c.args.word c.args.target)

pub returns-clause-last : goal.returns-clause-last
returns-clause-last c later = let m = made c in rw m.1 (put_low12-low12_word c.args.word c.args.target later)
