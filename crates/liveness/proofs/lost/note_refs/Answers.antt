use Rattle.std.proofs.Common.{rules, sym, ◌∙◌}
use Rattle.std.specs.Option.{option_map}
use Rattle.resolve.specs.Table.{goals_in}
use Rattle.liveness.specs.inner.Lost.{held}
use Rattle.liveness.proofs.LostLemmas.{noted_end, noted_kept, noted_never, noted_passed}
use Rattle.liveness.proofs.lost.note_refs.Goals as goal
use Rattle.liveness.proofs.lost.note_refs.Goals.{in-Some+then-last, in-Some+else-last, in-None}

pub loop-at-preserved : goal.loop-at-preserved
loop-at-preserved c =
    elim c.match-get.branch [
      | in-Some+then-last w ↦
          rw (w.found-is, w.last-is)
          (noted_kept c.args.keys.now c.args.file.now (goals_in c.args.goals.now.pool c.args.goals.now.places) (option_map held c.args.least) (option_map held c.loop-at.found) (option_map held w.note_ref-found.result) c.loop-at.at c.loop-at.last.key c.loop-at.last.kept w.in-Some.reference w.ask-last.result.key w.ask-last.result.kept c.loop-at.invariant
          (sym c.get.ensures.value ∙ w.in-Some.is) w.ask-last.ensures.key w.ask-last.ensures.kept w.if-last.true w.note_ref-found.ensures)
      | in-Some+else-last w ↦
          rw (w.found-is, w.last-is)
          (noted_passed c.args.keys.now c.args.file.now (goals_in c.args.goals.now.pool c.args.goals.now.places) (option_map held c.args.least) (option_map held c.loop-at.found) c.loop-at.at c.loop-at.last.key c.loop-at.last.kept w.in-Some.reference w.ask-last.result.key w.ask-last.result.kept c.loop-at.invariant
          (sym c.get.ensures.value ∙ w.in-Some.is) w.ask-last.ensures.key w.ask-last.ensures.kept w.if-last.false)
      | in-None w ↦
          rw (w.found-is, w.last-is)
          (noted_never c.args.keys.now c.args.file.now (goals_in c.args.goals.now.pool c.args.goals.now.places) (option_map held c.args.least) (option_map held c.loop-at.found) c.loop-at.at c.loop-at.last.key c.loop-at.last.kept (search rules)
          (sym c.get.ensures.value ∙ w.in-None.is))
    ]

pub returns : goal.returns
returns c =
    noted_end c.args.keys.now c.args.file.now (goals_in c.args.goals.now.pool c.args.goals.now.places) (option_map held c.args.least) (option_map held c.loop-at.found) c.loop-at.at c.loop-at.last.key c.loop-at.last.kept c.loop-at.invariant (search rules)
