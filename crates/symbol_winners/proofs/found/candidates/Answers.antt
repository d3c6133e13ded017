use Rattle.std.proofs.Common.{[], List, ℕ, get_or, ap, ◌∙◌}
use Rattle.symbol_winners.specs.inner.Tables.{held}
use Rattle.symbol_winners.proofs.FoundLemmas.{all_add}
use Rattle.symbol_winners.proofs.NumberLemmas.{list_there}
use Rattle.symbol_winners.proofs.found.candidates.Goals as goal

pub loop-i-preserved : goal.loop-i-preserved
loop-i-preserved c = record {
  adding = all_add (held c.loop-i.found.items) (held c.in_ok-found.found.items) c.args.files.now c.loop-i.i c.index-files-i.result c.loop-i.invariant.adding c.loop-i-test.true c.index-files-i.is c.in_ok-found.ensures.found;
  numbered = λ names are.
      c.in_ok-found.ensures.numbered names (c.loop-i.invariant.numbered names are)
      (list_there names c.args.files.now c.args.numbers.now c.loop-i.i c.index-files-i.result c.numbers_at.result.now are c.loop-i-test.true c.index-files-i.is (c.numbers_at.ensures ∙ ap (λ (lists : List (List ℕ)). get_or lists c.loop-i.i []) c.as_slice-lists.ensures));
}
