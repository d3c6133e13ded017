use Rattle.atom_cut.proofs.PieceLemmas.{ArePieces}
use Rattle.atom_cut.proofs.pieces.add_pieces.Given as goal

abbrev pub invariant-loop-i : goal.invariant-loop-i
invariant-loop-i l = ArePieces l.file l.number l.section l.cuts l.initial.atoms.items l.atoms.items l.i
