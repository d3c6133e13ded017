use Rattle.member_rounds.proofs.RiseLemmas.{loaded_rises}
use Rattle.member_rounds.proofs.laws.what_is_loaded_rises.Goals as goal

pub returns : goal.returns
returns c = loaded_rises
