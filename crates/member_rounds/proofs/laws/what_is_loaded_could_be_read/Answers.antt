use Rattle.member_rounds.proofs.AnswerLemmas.{loaded_all, loaded_only}
use Rattle.member_rounds.proofs.laws.what_is_loaded_could_be_read.Goals as goal

pub returns-clause-all : goal.returns-clause-all
returns-clause-all c = loaded_all

pub returns-clause-only : goal.returns-clause-only
returns-clause-only c = loaded_only
