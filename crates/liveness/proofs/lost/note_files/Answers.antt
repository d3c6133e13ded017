use Rattle.std.proofs.Common.{rules}
use Rattle.std.specs.Option.{option_map}
use Rattle.resolve.specs.Table.{goals_in, goals_of}
use Rattle.liveness.specs.inner.Lost.{held}
use Rattle.liveness.proofs.LostLemmas.{files_none, files_some}
use Rattle.liveness.proofs.NobodyLemmas.{goals_there, goals_none}
use Rattle.liveness.proofs.lost.note_files.Goals as goal
use Rattle.liveness.proofs.lost.note_files.Goals.{in-Some, in-None}

pub loop-at-preserved : goal.loop-at-preserved
loop-at-preserved c =
    elim c.match-file.branch [
      | in-Some w ↦
          rw w.least-is
          (files_some c.args.keys.now c.args.files.now (goals_of c.args.goals.now) c.loop-at.at (option_map held c.loop-at.least) (option_map held w.note_if_any-least.result) c.index-files-at.result (goals_in w.in-Some.goals.pool w.in-Some.goals.places) c.loop-at.invariant c.loop-at-test.true c.index-files-at.is
          (goals_there c.args.goals.now c.loop-at.at w.in-Some.goals c.file.result w.in-Some.is c.file.ensures.places c.file.ensures.pool) w.note_if_any-least.ensures)
      | in-None w ↦
          rw w.least-is
          (files_none c.args.keys.now c.args.files.now (goals_of c.args.goals.now) c.loop-at.at (option_map held c.loop-at.least) (option_map held c.loop-at.least) c.index-files-at.result c.loop-at.invariant c.loop-at-test.true c.index-files-at.is
          (goals_none c.args.goals.now c.loop-at.at c.file.result w.in-None.is c.file.ensures.places) (search rules))
    ]
