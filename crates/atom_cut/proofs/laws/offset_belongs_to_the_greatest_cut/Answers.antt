use Rattle.atom_cut.proofs.TileLemmas.{greatest_cut}
use Rattle.atom_cut.proofs.laws.offset_belongs_to_the_greatest_cut.Goals as goal

pub returns : goal.returns
returns c = greatest_cut
