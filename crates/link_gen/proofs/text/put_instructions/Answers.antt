use Rattle.mo_bytes.specs.Number.{number_bytes}
use Rattle.link_gen.proofs.Lists.{putting_goes_on}
use Rattle.link_gen.specs.Parts.{instruction}
use Rattle.link_gen.proofs.text.put_instructions.Goals as goal

pub loop-k-preserved : goal.loop-k-preserved
loop-k-preserved c =
    putting_goes_on (number_bytes 4) (instruction c.args.made) c.args.out.now.items c.loop-k.out.items _ c.loop-k.k c.instruction.result
    c.loop-k.invariant c.instruction.ensures c.in_ok-put_word.ensures
