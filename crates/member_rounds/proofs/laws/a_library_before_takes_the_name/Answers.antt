use Rattle.member_rounds.proofs.RoundLemmas.{library_first}
use Rattle.member_rounds.proofs.laws.a_library_before_takes_the_name.Goals as goal

pub returns : goal.returns
returns c = library_first
