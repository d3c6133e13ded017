use Rattle.std.proofs.Common.{rules}
use Rattle.resolve.specs.Table.{file_goals}
use Rattle.slot_needs.proofs.UnmetLemmas.{refs_end, refs_go_on, refs_pass_over}
use Rattle.slot_needs.proofs.unmet.with_refs.Goals as goal
use Rattle.slot_needs.proofs.unmet.with_refs.Goals.{then-is_unmet_at, else-is_unmet_at}

pub loop-at-preserved : goal.loop-at-preserved
loop-at-preserved c =
    elim c.if-is_unmet_at.branch [
      | then-is_unmet_at w ↦
          rw w.now-is (refs_go_on c.args.keys.now (file_goals c.args.goals.now) c.args.file c.args.refs.now c.loop-at.at c.args.least c.loop-at.now w.with_next-now.result c.loop-at.invariant w.with_next-now.ensures)
      | else-is_unmet_at w ↦
          rw w.now-is (refs_pass_over c.args.keys.now (file_goals c.args.goals.now) c.args.file c.args.refs.now c.loop-at.at c.args.least c.loop-at.now c.loop-at.invariant (search rules))
    ]

pub returns : goal.returns
returns c = refs_end c.args.keys.now (file_goals c.args.goals.now) c.args.file c.args.refs.now c.loop-at.at c.args.least c.loop-at.now c.loop-at.invariant (search rules)
