use Rattle.std.proofs.Common.{Global, Vec, sym, ap, ◌∙◌}
use Rattle.island_core.specs.Far.{is_grouped}
use Rattle.island_core.specs.inner.Rounds.{picked}
use Rattle.island_core.specs.declared.row.Pair.{Pair}
use Rattle.island_core.specs.declared.row.Row.{Row}
use Rattle.island_core.proofs.RoundLemmas.{all_picked, more_picked, none_picked, set_of}
use Rattle.island_core.proofs.pairs.pairs_of.Goals as goal
use Rattle.island_core.proofs.pairs.pairs_of.Goals.{then-is_grouped+in_ok-push, else-is_grouped}

pub loop-row-init : goal.loop-row-init
unfolding picked
loop-row-init c = c.new-pairs.ensures.items

pub loop-row-preserved : goal.loop-row-preserved
loop-row-preserved c =
    elim c.if-is_grouped.branch [
      | then-is_grouped+in_ok-push w ↦
          more_picked (λ (row : Row). is_grouped row.case) c.args.rows.now c.loop-row.row-index _ c.loop-row.pairs.items c.if-is_grouped.pairs.items c.loop-row-test.true
          (sym w.if-is_grouped.ensures) c.loop-row.invariant (ap (λ (v : Vec Pair Global). v.items) w.pairs-is ∙ w.in_ok-push.ensures.items)
      | else-is_grouped w ↦
          none_picked (λ (row : Row). is_grouped row.case) c.args.rows.now c.loop-row.row-index _ c.loop-row.pairs.items c.if-is_grouped.pairs.items c.loop-row-test.true
          (sym w.if-is_grouped.ensures) c.loop-row.invariant (ap (λ (v : Vec Pair Global). v.items) w.pairs-is)
    ]

pub returns : goal.returns
returns c =
    set_of c.args.rows.now c.loop-row.pairs.items c.in_order.result
    (all_picked (λ (row : Row). is_grouped row.case) c.args.rows.now c.loop-row.row-index c.loop-row.pairs.items c.loop-row-test.false c.loop-row.invariant)
    c.in_order.ensures.same c.in_order.ensures.rises
