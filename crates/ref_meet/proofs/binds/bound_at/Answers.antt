use Rattle.resolve.specs.Table.{goals_of}
use Rattle.ref_meet.proofs.RowLemmas.{goals_here}
use Rattle.ref_meet.proofs.binds.bound_at.Goals as goal

pub returns-clause-goals : goal.returns-clause-goals
returns-clause-goals c = goals_here (goals_of c.args.referring.now.goals.now) c.args.at c.file.result c.file.ensures.goals
