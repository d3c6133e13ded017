use Rattle.mo_bytes.specs.Number.{number_bytes}
use Rattle.sym_out.specs.Symbols.{indirect_number}
use Rattle.sym_out.proofs.Loops.{IsPutting}
use Rattle.sym_out.proofs.ranges.ImageSymbols.put_numbers.Given as goal

abbrev pub invariant-loop-goal : goal.invariant-loop-goal
invariant-loop-goal l = IsPutting (λ goal. number_bytes 4 (indirect_number l.self goal)) l.goals l.fn.out.items l.goal-index l.out.items
