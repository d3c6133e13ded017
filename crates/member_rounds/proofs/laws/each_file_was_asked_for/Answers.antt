use Rattle.member_rounds.proofs.GrowthLemmas.{round_reason}
use Rattle.member_rounds.proofs.laws.each_file_was_asked_for.Goals as goal

pub returns : goal.returns
returns c = round_reason
