use Rattle.atom_cut.proofs.AtomLemmas.{AreAtoms}
use Rattle.atom_cut.proofs.cutting.cut.Given as goal

abbrev pub invariant-loop-index : goal.invariant-loop-index
invariant-loop-index l = AreAtoms l.object l.file l.atoms.items l.index
