use Rattle.std.proofs.Common.{◌≡◌, ◌≤◌, ◌*◌, ◌^◌, ℕ, true, length}
use Rattle.std.specs.Vec.Iter.{into_iter_items, into_iter_len}
use Rattle.lib_bind.specs.Closing.{choose_all, chosen_of}
use Rattle.lib_bind.specs.Named.{are_named}
use Rattle.lib_bind.proofs.choosing.chosen_of.Given as goal

abbrev pub invariant-loop-stub : goal.invariant-loop-stub
invariant-loop-stub l = record {
  same : choose_all l.command (into_iter_items l.stub-iterator) l.chosen ≡ chosen_of l.command l.fn.named;
  named : (least : ℕ) × (are_named (length l.command.inputs) least (into_iter_items l.stub-iterator) ≡ true);
  sum : l.chosen.documents ≤ length l.chosen.libraries * 2 ^ 32;
  count : into_iter_len l.stub-iterator ≡ length (into_iter_items l.stub-iterator);
}
