use Rattle.patch.proofs.ReadingLemmas.{bits_stay}
use Rattle.patch.proofs.laws.instructions_keep_their_other_bits.Goals as goal

pub returns : goal.returns
returns c = bits_stay
