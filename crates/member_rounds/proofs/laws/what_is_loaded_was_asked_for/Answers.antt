use Rattle.member_rounds.proofs.RoundLemmas.{loaded_reason}
use Rattle.member_rounds.proofs.laws.what_is_loaded_was_asked_for.Goals as goal

pub returns : goal.returns
returns c = loaded_reason
