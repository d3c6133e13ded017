-- The law is that of the lemmas.
use Rattle.image_laws.proofs.Stated.{header_is_goal, rows_have_goals, zerofill_has_goals}
use Rattle.image_laws.proofs.laws.kept_atoms_have_goals.Goals as goal

pub returns-clause-written : goal.returns-clause-written
returns-clause-written c = rows_have_goals

pub returns-clause-zerofill : goal.returns-clause-zerofill
returns-clause-zerofill c = zerofill_has_goals

pub returns-clause-header : goal.returns-clause-header
returns-clause-header c = header_is_goal
