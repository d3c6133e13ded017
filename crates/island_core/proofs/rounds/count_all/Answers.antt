use Rattle.std.proofs.Common.{◌+◌, List, ℕ, arith, sym, subst, ◌∙◌}
use Rattle.island_core.specs.inner.Rounds.{AreCounts}
use Rattle.island_core.proofs.CountLemmas.{counts_fit, counts_more, counts_pass}
use Rattle.island_core.proofs.rounds.count_all.Goals as goal
use Rattle.island_core.proofs.rounds.count_all.Goals.{then-pair-counts, else-pair-counts}

pub overflow_add-counts : goal.overflow_add-counts
overflow_add-counts c =
    let fits = counts_fit c.args.set.now c.loop-pair.pair-index c.loop-pair.counts _ c.loop-pair.invariant.counts c.loop-pair-test.true c.pairs_are_few.ensures c.if-pair-counts.true in omega (arith, fits)

pub loop-pair-preserved : goal.loop-pair-preserved
loop-pair-preserved c =
    elim c.if-pair-counts.branch [
      | then-pair-counts w ↦ record {
        counts = counts_more c.args.set.now c.loop-pair.pair-index _ c.loop-pair.counts _ c.loop-pair.invariant.counts c.loop-pair-test.true w.if-pair-counts.true w.counts-is;
        long = c.if-pair-counts.auto.counts ∙ c.loop-pair.auto.counts;
      }
      | else-pair-counts w ↦ record {
        counts = subst (λ (ns : List ℕ). AreCounts c.args.set.now (c.loop-pair.pair-index + 1) ns) (sym w.counts-is) (counts_pass c.args.set.now c.loop-pair.pair-index _ c.loop-pair.counts c.loop-pair.invariant.counts c.loop-pair-test.true w.if-pair-counts.false);
        long = c.if-pair-counts.auto.counts ∙ c.loop-pair.auto.counts;
      }
    ]
