use Rattle.std.proofs.Common.{◌≡◌, ◌++◌, replicate}
use Rattle.fixup_chain.proofs.starts.put_zeros.Given as goal

abbrev pub invariant-loop-zero : goal.invariant-loop-zero
invariant-loop-zero l = l.out.items ≡ l.fn.out.items ++ replicate l._zero 0
