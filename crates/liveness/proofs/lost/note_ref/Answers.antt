use Rattle.std.proofs.Common.{rules}
use Rattle.std.specs.Option.{option_map}
use Rattle.resolve.specs.Table.{goals_in}
use Rattle.liveness.specs.inner.Lost.{held}
use Rattle.liveness.proofs.LostLemmas.{ref_two}
use Rattle.liveness.proofs.lost.note_ref.Goals as goal

pub returns-in-Some : goal.returns-in-Some
returns-in-Some c =
    ref_two c.args.file.now (goals_in c.args.goals.now.pool c.args.goals.now.places) c.args.reference.now c.in-Some.minus (option_map held c.args.least) (option_map held c.note-least.result) (option_map held c.note.result)
    c.in-Some.is (search rules) (search rules)
