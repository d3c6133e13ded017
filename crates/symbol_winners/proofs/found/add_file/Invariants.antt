use Rattle.std.proofs.Common.{◌≡◌, ℕ, List}
use Rattle.name_ids.specs.Names.{numbers_in}
use Rattle.symbol_winners.specs.Found.{found_in}
use Rattle.symbol_winners.specs.inner.Numbers.{AreNumbered}
use Rattle.symbol_winners.specs.inner.Tables.{held}
use Rattle.literal_merge.proofs.AddingLemmas.{IsAdding}
use Rattle.symbol_winners.proofs.FoundLemmas.{from}
use Rattle.symbol_winners.proofs.found.add_file.Given as goal

abbrev pub invariant-loop-i : goal.invariant-loop-i
invariant-loop-i l = record {
  adding : IsAdding (held l.fn.before.items) (held l.found.items) (found_in l.file) (from l.file l.i);
  numbered : (names : List (List ℕ)) → AreNumbered names l.fn.before.items → l.numbers ≡ numbers_in names l.file → AreNumbered names l.found.items;
}
