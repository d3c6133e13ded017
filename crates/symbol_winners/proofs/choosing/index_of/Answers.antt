use Rattle.std.proofs.Common.{◌∙◌}
use Rattle.std.proofs.lemmas.List.{get_or_default}
use Rattle.symbol_winners.specs.inner.Best.{chosen_name}
use Rattle.symbol_winners.proofs.IndexSteps.{index_step}
use Rattle.symbol_winners.proofs.WinnerLemmas.{listed_at}
use Rattle.symbol_winners.proofs.choosing.index_of.Goals as goal

pub loop-i-preserved : goal.loop-i-preserved
loop-i-preserved c = record {
  index =
      index_step c.args.chosen.now c.loop-i.index c.put.new.self c.loop-i.i c.index-chosen-i.result c.loop-i.invariant.index c.loop-i-test.true
      (λ d. c.index-chosen-i.is ∙ get_or_default c.args.chosen.now c.loop-i.i c.index-chosen-i.result d c.loop-i-test.true)
      (λ other. c.put.ensures.places (chosen_name c.index-chosen-i.result) other
      (rw c.loop-i.invariant.names (listed_at c.args.names.now c.args.chosen.now c.loop-i.i c.index-chosen-i.result c.index-chosen-i.result c.requires.listed c.loop-i-test.true c.index-chosen-i.is)));
  names = c.put.ensures.names ∙ c.loop-i.invariant.names;
  len = c.put.ensures.len ∙ c.loop-i.invariant.len;
}
