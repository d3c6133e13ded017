use Rattle.member_rounds.proofs.RoundLemmas.{loaded_closed}
use Rattle.member_rounds.proofs.laws.what_is_loaded_asks_for_nothing_more.Goals as goal

pub returns : goal.returns
returns c = loaded_closed
