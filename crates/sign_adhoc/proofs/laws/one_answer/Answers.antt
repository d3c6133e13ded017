use Rattle.sign_adhoc.proofs.AnswerLemmas.{one_answer}
use Rattle.sign_adhoc.proofs.laws.one_answer.Goals as goal

pub returns : goal.returns
returns c = one_answer
