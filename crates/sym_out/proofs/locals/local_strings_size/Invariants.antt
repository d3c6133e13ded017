use Rattle.sym_out.specs.Sizes.{string_size}
use Rattle.sym_out.specs.Symbols.{local_entry}
use Rattle.sym_out.proofs.Sizing.{IsSumming}
use Rattle.sym_out.proofs.locals.local_strings_size.Given as goal

abbrev pub invariant-loop-local : goal.invariant-loop-local
invariant-loop-local l = IsSumming (λ x. string_size (local_entry x)) l.locals l.local-index l.total
