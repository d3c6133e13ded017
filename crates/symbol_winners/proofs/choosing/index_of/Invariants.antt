use Rattle.std.proofs.Common.{◌≡◌, length}
use Rattle.symbol_winners.specs.inner.Index.{IsIndexOf}
use Rattle.symbol_winners.proofs.choosing.index_of.Given as goal

abbrev pub invariant-loop-i : goal.invariant-loop-i
invariant-loop-i l = record {
  index : IsIndexOf l.chosen l.i l.index;
  names : l.index.names.now ≡ l.names;
  len : length l.index.places.items ≡ length l.names;
}
