use Rattle.tlv_plan.proofs.Once.{one_offset}
use Rattle.tlv_plan.proofs.laws.offsets_are_one.Goals as goal

pub returns : goal.returns
returns c = one_offset
