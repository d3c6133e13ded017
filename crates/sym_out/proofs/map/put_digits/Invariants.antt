use Rattle.std.proofs.Common.{[], ◌∷◌, ◌/◌, ◌%◌, ◌^◌}
use Rattle.sym_out.specs.Map.{hex_digit}
use Rattle.sym_out.proofs.Loops.{IsPutting}
use Rattle.sym_out.proofs.map.put_digits.Given as goal

abbrev pub invariant-loop-place : goal.invariant-loop-place
invariant-loop-place l = IsPutting (λ place. hex_digit (l.number / 2 ^ place % 16) ∷ []) l.places l.fn.out.items l.place-index l.out.items
