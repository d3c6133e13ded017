use Rattle.std.proofs.Common.{◌≡◌, ◌++◌}
use Rattle.std.specs.Vec.Iter.{into_iter_items}
use Rattle.member_rounds.specs.inner.Paired.{zipped}
use Rattle.member_rounds.proofs.in_order.paired.Given as goal

abbrev pub invariant-loop-file : goal.invariant-loop-file
invariant-loop-file l = l.pairs.items ++ zipped (into_iter_items l.file-iterator) (into_iter_items l.lists) ≡ zipped l.fn.files.items l.fn.numbers.items
