use Rattle.slot_needs.proofs.SlotLemmas.{slots_same}
use Rattle.slot_needs.proofs.laws.slots_serve_all_needs.Goals as goal

pub returns : goal.returns
returns c ways all few slots same are = slots_same ways all few slots same are
