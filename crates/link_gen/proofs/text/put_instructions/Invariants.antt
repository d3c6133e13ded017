use Rattle.mo_bytes.specs.Number.{number_bytes}
use Rattle.link_gen.proofs.Lists.{IsPutting}
use Rattle.link_gen.specs.Parts.{instruction}
use Rattle.link_gen.proofs.text.put_instructions.Given as goal

abbrev pub invariant-loop-k : goal.invariant-loop-k
invariant-loop-k l = IsPutting (number_bytes 4) (instruction l.made) l.fn.out.items l.k l.out.items
