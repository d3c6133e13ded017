use Rattle.std.proofs.Common.{arith}
use Rattle.dyld_ops.proofs.WordLemmas.{word_untold}
use Rattle.dyld_ops.proofs.machine.word_at.Goals as goal

pub returns-in_default : goal.returns-in_default
returns-in_default c =
    word_untold _ _ _ (λ i. omega (arith, c.type_inv.image i)) c.denote.ensures c.in_default.not-Difference
