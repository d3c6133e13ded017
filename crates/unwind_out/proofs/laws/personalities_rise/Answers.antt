use Rattle.unwind_out.proofs.Slots.{personalities_are, personalities_one}
use Rattle.unwind_out.proofs.laws.personalities_rise.Goals as goal

pub returns : goal.returns
returns c = record { is = personalities_are; alone = personalities_one }
