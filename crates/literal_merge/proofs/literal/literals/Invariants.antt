use Rattle.std.proofs.Common.{[], drop}
use Rattle.literal_merge.specs.Representatives.{literals}
use Rattle.literal_merge.specs.inner.Groups.{held_literals}
use Rattle.literal_merge.proofs.AddingLemmas.{IsAdding}
use Rattle.literal_merge.proofs.literal.literals.Given as goal

abbrev pub invariant-loop-file : goal.invariant-loop-file
invariant-loop-file l = IsAdding [] (held_literals l.literals.items) (literals l.files) (literals (drop l.file-index l.files))
