use Rattle.std.proofs.Common.{Global, Vec, sym, ap, ◌∙◌}
use Rattle.island_core.specs.declared.row.Pair.{Pair}
use Rattle.island_core.specs.inner.Rounds.{is_new, picked}
use Rattle.island_core.proofs.RoundLemmas.{by_moves, is_new_had, is_new_no, is_new_yes, more_picked, none_picked}
use Rattle.island_core.proofs.rounds.new_pairs.Goals as goal
use Rattle.island_core.proofs.rounds.new_pairs.Goals.{then-needs+then-not-has+in_ok-push, else-needs, else-needs-via-then-needs+else-not-has, else-needs-via-else-needs}

pub loop-row-init : goal.loop-row-init
unfolding picked
loop-row-init c = c.new-pairs.ensures.items

pub loop-row-preserved : goal.loop-row-preserved
loop-row-preserved c =
    let asks = by_moves c.args.scale.now c.args.set.now c.args.moves.now _ c.needs.result c.requires.moves (c.requires.rows c.loop-row.row-index _ c.loop-row-test.true) c.needs.ensures in
    elim c.if-needs.branch [
      | then-needs+then-not-has+in_ok-push w ↦
          more_picked (is_new c.args.scale.now c.args.set.now) c.args.rows.now c.loop-row.row-index _ c.loop-row.pairs.items c.if-needs.pairs.items c.loop-row-test.true
          (is_new_yes _ _ (sym asks ∙ w.if-needs.true) (sym w.if-not-has.ensures)) c.loop-row.invariant (ap (λ (v : Vec Pair Global). v.items) w.pairs-is ∙ w.in_ok-push.ensures.items)
      | else-needs w ↦ elim w.else-needs.branch [
        | else-needs-via-then-needs+else-not-has w' ↦
            none_picked (is_new c.args.scale.now c.args.set.now) c.args.rows.now c.loop-row.row-index _ c.loop-row.pairs.items c.if-needs.pairs.items c.loop-row-test.true
            (is_new_had _ _ (sym w'.if-not-has.ensures)) c.loop-row.invariant (ap (λ (v : Vec Pair Global). v.items) w.pairs-is)
        | else-needs-via-else-needs w' ↦
            none_picked (is_new c.args.scale.now c.args.set.now) c.args.rows.now c.loop-row.row-index _ c.loop-row.pairs.items c.if-needs.pairs.items c.loop-row-test.true
            (is_new_no _ _ (sym asks ∙ w'.if-needs.false)) c.loop-row.invariant (ap (λ (v : Vec Pair Global). v.items) w.pairs-is)
      ]
    ]
