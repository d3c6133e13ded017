use Rattle.std.proofs.Common.{◌≡◌, length}
use Rattle.std.specs.Vec.Iter.{into_iter_items, into_iter_len}
use Rattle.lib_bind.specs.Closing.{nothing, with_files}
use Rattle.lib_bind.proofs.closing.with_files.Given as goal

abbrev pub invariant-loop-file : goal.invariant-loop-file
invariant-loop-file l = record {
  same : with_files l.heads (into_iter_items l.file-iterator) l.growing ≡ with_files l.heads l.fn.files nothing;
  count : into_iter_len l.file-iterator ≡ length (into_iter_items l.file-iterator);
}
