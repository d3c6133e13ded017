use Rattle.std.proofs.Common.{rules}
use Rattle.ref_meet.specs.Ready.{scene_of}
use Rattle.ref_meet.proofs.RowLemmas.{held_else, held_then}
use Rattle.ref_meet.proofs.targets.holds_offset.Goals as goal

pub returns-then-row : goal.returns-then-row
returns-then-row c = search (rules, held_then (scene_of c.args.scene.now) c.args.scene.now.goals.now.pool c.args.row.now c.args.goal.now c.requires.row)

pub returns-else-row : goal.returns-else-row
returns-else-row c = search (rules, held_else (scene_of c.args.scene.now) c.args.scene.now.goals.now.pool c.args.row.now c.args.goal.now c.requires.row)
