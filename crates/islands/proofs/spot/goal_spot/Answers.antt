use Rattle.std.proofs.Common.{ap, sym, ◌∙◌}
use Rattle.mo_types.specs.declared.goal.Goal.{Goal}
use Rattle.islands.specs.Rows.{goal_spot}
use Rattle.islands.proofs.spot.goal_spot.Goals as goal

pub returns-in-WeakSelf-clause-exact : goal.returns-in-WeakSelf-clause-exact
returns-in-WeakSelf-clause-exact c = c.atom_spot-in-WeakSelf.ensures.exact ∙ ap (λ (g : Goal). goal_spot c.args.layout.now c.args.lasts.now g) (sym c.in-WeakSelf.is)
