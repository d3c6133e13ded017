use Rattle.std.specs.Option.{option_copied}
use Rattle.resolve.proofs.GoalLemmas.{name_goals_are}
use Rattle.resolve.proofs.goals.name_goal.Goals as goal

pub returns : goal.returns
returns c =
    let s = c.args.scope.now in
    name_goals_are s.command.now s.loaded.now.files s.libs.now s.symbols.now c.args.name.now (option_copied c.winner.result) c.goal_by.result s.of_files c.winner.ensures c.goal_by.ensures
