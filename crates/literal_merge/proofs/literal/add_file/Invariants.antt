use Rattle.std.proofs.Common.{drop}
use Rattle.literal_merge.specs.inner.Groups.{held_literals}
use Rattle.literal_merge.proofs.AddingLemmas.{IsAdding}
use Rattle.literal_merge.proofs.LiteralLemmas.{from_atoms}
use Rattle.literal_merge.proofs.literal.add_file.Given as goal

abbrev pub invariant-loop-atom : goal.invariant-loop-atom
invariant-loop-atom l = IsAdding (held_literals l.fn.before.items) (held_literals l.literals.items) (from_atoms l.object l.atoms) (from_atoms l.object (drop l.atom-index l.atoms))
