use Rattle.std.proofs.Common.{◌≡◌, ℕ, List, [], drop}
use Rattle.name_ids.specs.Names.{numbers_of}
use Rattle.symbol_winners.specs.Found.{found}
use Rattle.symbol_winners.specs.inner.Numbers.{AreNumbered}
use Rattle.symbol_winners.specs.inner.Tables.{held}
use Rattle.literal_merge.proofs.AddingLemmas.{IsAdding}
use Rattle.symbol_winners.proofs.found.candidates.Given as goal

abbrev pub invariant-loop-i : goal.invariant-loop-i
invariant-loop-i l = record {
  adding : IsAdding [] (held l.found.items) (found l.files) (found (drop l.i l.files));
  numbered : (names : List (List ℕ)) → l.numbers ≡ numbers_of names l.files → AreNumbered names l.found.items;
}
