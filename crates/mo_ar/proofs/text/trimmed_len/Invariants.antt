use Rattle.mo_ar.proofs.TextLemmas.{IsTrimming}
use Rattle.mo_ar.proofs.text.trimmed_len.Given as goal

abbrev pub invariant-loop-end : goal.invariant-loop-end
invariant-loop-end l = IsTrimming l.padding l.text l.end

abbrev pub decreases-loop-end : goal.decreases-loop-end
decreases-loop-end l = l.end
