use Rattle.lib_bind.proofs.LawLemmas.{reach_only}
use Rattle.lib_bind.proofs.laws.a_library_reaches_what_paths_lead_to.Goals as goal

pub returns-clause-only : goal.returns-clause-only
returns-clause-only c = λ graph at library to whole is there. reach_only graph at library to whole is there
