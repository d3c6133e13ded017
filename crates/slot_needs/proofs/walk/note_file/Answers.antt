use Rattle.std.proofs.Common.{rules, ◌∙◌}
use Rattle.resolve.specs.Table.{file_goals}
use Rattle.slot_needs.proofs.FileLemmas.{file_goes_on}
use Rattle.slot_needs.proofs.walk.note_file.Goals as goal
use Rattle.slot_needs.proofs.walk.note_file.Goals.{then-not-is_settled_at+in_ok-now, else-not-is_settled_at}

pub loop-at-preserved : goal.loop-at-preserved
loop-at-preserved c =
    elim c.if-not-is_settled_at.branch [
      | then-not-is_settled_at+in_ok-now w ↦
          rw w.now-is (
            w.in_ok-now.ensures.pool ∙ c.loop-at.invariant.0,
            file_goes_on c.args.symbols.now.literals c.args.keys.now (file_goals c.args.goals.now) c.args.file.now.refs c.loop-at.at c.args.before.needs c.loop-at.now.needs w.in_ok-now.now.needs c.loop-at.invariant.1 w.in_ok-now.ensures.needs,
          )
      | else-not-is_settled_at w ↦
          rw w.now-is (
            c.loop-at.invariant.0,
            file_goes_on c.args.symbols.now.literals c.args.keys.now (file_goals c.args.goals.now) c.args.file.now.refs c.loop-at.at c.args.before.needs c.loop-at.now.needs c.loop-at.now.needs c.loop-at.invariant.1
                (c.is_settled_at.ensures (search rules) c.args.symbols.now.literals c.args.keys.now),
          )
    ]
