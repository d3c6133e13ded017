use Rattle.mo_bytes.specs.Number.{number_bytes}
use Rattle.unwind_out.proofs.Loops.{IsPutting}
use Rattle.unwind_out.proofs.pages.put_numbers.Given as goal

abbrev pub invariant-loop-number : goal.invariant-loop-number
invariant-loop-number l = IsPutting (number_bytes 4) l.numbers l.initial.out.items l.number-index l.out.items
