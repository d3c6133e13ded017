use Rattle.std.proofs.Common.{rules}
use Rattle.resolve.proofs.PlaceLemmas.{file_there}
use Rattle.resolve.proofs.table.GoalTable.file.Goals as goal

pub returns-in-Some-clause-goals : goal.returns-in-Some-clause-goals
returns-in-Some-clause-goals c =
    file_there c.args.self.now c.args.at c.as_slice.result.now c.as_slice-in-Some.result.now (search rules) (search rules)
