use Rattle.yaml_text.proofs.LineLemmas.{IsTrimming}
use Rattle.yaml_text.proofs.lines.trimmed_size.Given as goal

abbrev pub invariant-loop-i : goal.invariant-loop-i
invariant-loop-i l = IsTrimming l.text l.i l.size
