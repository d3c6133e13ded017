use Rattle.std.proofs.Common.{◌-◌, length}
use Rattle.yaml_text.proofs.PlainLemmas.{IsPlain}
use Rattle.yaml_text.proofs.scalars.plain_from.Given as goal

abbrev pub invariant-loop-at : goal.invariant-loop-at
invariant-loop-at l = IsPlain l.in_flow l.text l.at l.spaced

abbrev pub decreases-loop-at : goal.decreases-loop-at
decreases-loop-at l = length l.text - l.at
