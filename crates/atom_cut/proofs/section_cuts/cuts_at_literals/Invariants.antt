use Rattle.atom_cut.proofs.LiteralLemmas.{AreLiterals}
use Rattle.atom_cut.proofs.section_cuts.cuts_at_literals.Given as goal

abbrev pub invariant-loop-number : goal.invariant-loop-number
invariant-loop-number l = AreLiterals l.literal l.number-end l.number l.cuts.items
