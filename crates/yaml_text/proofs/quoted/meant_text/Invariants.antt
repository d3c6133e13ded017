use Rattle.std.proofs.Common.{◌-◌, length}
use Rattle.yaml_text.proofs.QuotedLemmas.{IsReadingText}
use Rattle.yaml_text.proofs.quoted.meant_text.Given as goal

abbrev pub invariant-loop-at : goal.invariant-loop-at
invariant-loop-at l = IsReadingText l.quote l.text l.at l.bytes.items

abbrev pub decreases-loop-at : goal.decreases-loop-at
decreases-loop-at l = length l.text - l.at
