use Rattle.std.proofs.Common.{◌≡◌, ◌++◌, length}
use Rattle.std.specs.List.{flat_map}
use Rattle.std.specs.Vec.Iter.{into_iter_items, into_iter_len}
use Rattle.par_work.proofs.order.pieces_of.Given as goal

abbrev pub invariant-loop-run : goal.invariant-loop-run
invariant-loop-run g l = record {
  so_far : l.pieces.items ++ flat_map (λ run. run.pieces.items) (into_iter_items l.run-iterator) ≡ flat_map (λ run. run.pieces.items) l.fn.done.items;
  left : into_iter_len l.run-iterator ≡ length (into_iter_items l.run-iterator);
}
