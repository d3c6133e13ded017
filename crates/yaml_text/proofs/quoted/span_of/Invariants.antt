use Rattle.std.proofs.Common.{◌-◌, length}
use Rattle.yaml_text.proofs.QuotedLemmas.{IsSpanning}
use Rattle.yaml_text.proofs.quoted.span_of.Given as goal

abbrev pub invariant-loop-span : goal.invariant-loop-span
invariant-loop-span l = IsSpanning l.quote l.text l.span

abbrev pub decreases-loop-span : goal.decreases-loop-span
decreases-loop-span l = length l.text - l.span.size
