use Rattle.sym_out.proofs.LawLemmas.{have_sizes}
use Rattle.sym_out.proofs.laws.sizes_are_counts.Goals as goal

pub returns : goal.returns
returns c = λ slots ranges. have_sizes slots ranges
