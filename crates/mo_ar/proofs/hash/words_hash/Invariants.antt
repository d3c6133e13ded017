use Rattle.std.proofs.Common.{◌≡◌}
use Rattle.mo_ar.specs.inner.Hash.{words_hash}
use Rattle.mo_ar.proofs.hash.words_hash.Given as goal

abbrev pub invariant-loop-i : goal.invariant-loop-i
invariant-loop-i l = l.hash ≡ words_hash l.i l.name
