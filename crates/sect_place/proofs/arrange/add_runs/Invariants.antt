use Rattle.std.proofs.Common.{◌≡◌, ◌++◌, length}
use Rattle.std.specs.Vec.Iter.{into_iter_items, into_iter_len}
use Rattle.sect_place.specs.Arrangement.{runs, runs_from}
use Rattle.sect_place.proofs.arrange.add_runs.Given as goal

abbrev pub invariant-loop-part : goal.invariant-loop-part
invariant-loop-part l = record {
  so_far : l.groups.items ++ runs_from l.name l.run (into_iter_items l.part-iterator) ≡ l.initial.groups.items ++ runs l.fn.parts.items;
  left : into_iter_len l.part-iterator ≡ length (into_iter_items l.part-iterator);
}
