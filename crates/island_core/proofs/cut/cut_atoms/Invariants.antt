use Rattle.island_core.proofs.CutLemmas.{IsCutting}
use Rattle.island_core.proofs.cut.cut_atoms.Given as goal

abbrev pub invariant-atoms : goal.invariant-atoms
invariant-atoms l = IsCutting l.most l.extents l.ends.items l.first l.at
