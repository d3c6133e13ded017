use Rattle.unwind_link.proofs.NeedLemmas.{serves_all}
use Rattle.unwind_link.proofs.laws.slots_serve_all_personalities.Goals as goal

pub returns : goal.returns
returns c = λ others goals listed slots are serves. serves_all others goals listed slots are serves
