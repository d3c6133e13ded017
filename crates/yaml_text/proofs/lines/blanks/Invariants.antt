use Rattle.std.proofs.Common.{◌-◌, length}
use Rattle.yaml_text.specs.Characters.{is_blank}
use Rattle.yaml_text.proofs.LineLemmas.{IsPassing}
use Rattle.yaml_text.proofs.lines.blanks.Given as goal

abbrev pub invariant-loop-at : goal.invariant-loop-at
invariant-loop-at l = IsPassing is_blank l.text l.at

abbrev pub decreases-loop-at : goal.decreases-loop-at
decreases-loop-at l = length l.text - l.at
