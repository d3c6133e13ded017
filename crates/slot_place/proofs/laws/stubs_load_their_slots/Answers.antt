use Rattle.slot_place.proofs.LoadLemmas.{loads}
use Rattle.slot_place.proofs.laws.stubs_load_their_slots.Goals as goal

pub returns : goal.returns
returns c = loads
