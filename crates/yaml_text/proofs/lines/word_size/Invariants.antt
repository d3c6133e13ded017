use Rattle.std.proofs.Common.{◌-◌, length, not}
use Rattle.yaml_text.specs.Characters.{is_blank}
use Rattle.yaml_text.proofs.LineLemmas.{IsPassing}
use Rattle.yaml_text.proofs.lines.word_size.Given as goal

abbrev pub invariant-loop-at : goal.invariant-loop-at
invariant-loop-at l = IsPassing (λ byte. not (is_blank byte)) l.text l.at

abbrev pub decreases-loop-at : goal.decreases-loop-at
decreases-loop-at l = length l.text - l.at
