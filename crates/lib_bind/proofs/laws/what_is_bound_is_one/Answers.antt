use Rattle.lib_bind.proofs.OneLemmas.{graph_one, outcomes_one}
use Rattle.lib_bind.proofs.laws.what_is_bound_is_one.Goals as goal

pub returns-clause-outcomes : goal.returns-clause-outcomes
returns-clause-outcomes c = outcomes_one

pub returns-clause-graphs : goal.returns-clause-graphs
returns-clause-graphs c = graph_one
