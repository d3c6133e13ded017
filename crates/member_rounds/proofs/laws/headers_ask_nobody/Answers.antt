use Rattle.member_rounds.proofs.RoundLemmas.{header_asks_nobody}
use Rattle.member_rounds.proofs.laws.headers_ask_nobody.Goals as goal

pub returns : goal.returns
returns c = header_asks_nobody
