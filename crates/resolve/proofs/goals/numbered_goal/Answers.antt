use Rattle.std.proofs.Common.{ℕ, List, slice_get, sym, ap, ◌∙◌}
use Rattle.std.specs.Option.{option_copied}
use Rattle.resolve.proofs.GoalLemmas.{numbered_goals_are}
use Rattle.resolve.proofs.goals.numbered_goal.Goals as goal

pub returns : goal.returns
returns c =
    let s = c.args.scope.now in
    numbered_goals_are s.command.now s.loaded.now.files s.libs.now s.symbols.now c.args.id c.name_of-name.result.now (option_copied c.winner_numbered.result) c.goal_by.result
    s.of_files (ap (λ (names : List (List ℕ)). slice_get names c.args.id) (sym c.names.ensures) ∙ c.name_of-name.ensures) c.winner_numbered.ensures.name c.goal_by.ensures
